use Rattle.std.proofs.Common.{◌≡◌, ◌++◌, ◌∷◌, [], List, length, refl, arith, sym, ap, subst, ◌∙◌}
use Rattle.std.specs.Prelude.{slice_get}
use Rattle.pg_span_refute.specs.declared.words.Word.{Word}
use Rattle.pg_span_refute.specs.Words.{IsWordOf, AreWordsOf}
use Rattle.pg_span_refute.proofs.Taken.{all_more, got_last}
use Rattle.pg_span_refute.proofs.words.Words.place_of.Goals as goal

pub returns : goal.returns
returns c =
    let old : List Word = c.args.self.now.words.items in
    let word : Word = record { address = c.args.address; writes = c.in_ok-writes.writes; assists = c.in_ok-assists.assists } in
    let items : c.push.new.self.items ≡ old ++ word ∷ [] = c.in_ok-push.ensures.items in
    let place : c.len-place.result ≡ length old = omega (arith, c.len-place.ensures) in (
      subst (AreWordsOf c.args.events.now) (sym items) (all_more (IsWordOf c.args.events.now) old word c.requires.words (c.in_ok-writes.ensures, c.in_ok-assists.ensures)),
      record { word = word; there = ap (λ (xs : List Word). slice_get xs c.len-place.result) items ∙ (ap (slice_get (old ++ word ∷ [])) place ∙ got_last old word); address = refl },
    )
