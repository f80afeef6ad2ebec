use Rattle.std.proofs.Common.{◌≡◌, ◌<◌, ℕ, List, length, sym, ap, subst, ◌∙◌}
use Rattle.std.proofs.lemmas.Option.{get_or_from_slice_get, slice_get_within}
use Rattle.pg_machine.specs.Machine.{IsIn}
use Rattle.pg_span_refute.specs.declared.words.Word.{Word}
use Rattle.pg_span_refute.specs.Memory.{MayHold}
use Rattle.pg_span_refute.specs.Words.{IsWordOf}
use Rattle.pg_span_refute.proofs.Taken.{all_in, in_get}
use Rattle.pg_span_refute.proofs.words.Words.look.Goals as goal

pub put_values-requires : goal.put_values-requires
put_values-requires c =
    let at = c.in_ok-place.ensures.1 in
    let words : List Word = c.place_of.new.self.words.items in
    let word : Word = c.index-word.result.now in
    let lt : c.in_ok-place.place < length words = slice_get_within words c.in_ok-place.place at.word at.there in
    let here : IsIn word words = subst (λ w. IsIn w words) (sym c.index-word.ensures) (in_get words c.in_ok-place.place word lt) in
    subst (λ es. IsWordOf es word) c.events.ensures.events (all_in (IsWordOf c.events.result.now) words word c.in_ok-place.ensures.0 here)

pub returns-clause-values : goal.returns-clause-values
returns-clause-values c = λ whole value may.
    let at = c.in_ok-place.ensures.1 in
    let word : Word = c.index-word.result.now in
    let same : word ≡ at.word = c.index-word.ensures ∙ get_or_from_slice_get c.place_of.new.self.words.items c.in_ok-place.place at.word word at.there in
    let address : word.address ≡ c.args.address = ap (λ (w : Word). w.address) same ∙ at.address in
    c.in_ok-put_values.ensures value (subst (λ (a : ℕ). MayHold c.args.run.now c.args.slot a value) (sym address) may)
