use Rattle.std.proofs.Common.{◌≡◌, ℕ, ◌+◌, ◌<◌, ◌++◌, List, length, take, take_all, drop, map, get_or, ap, sym, ◌∙◌, arith, Some}
use Rattle.std.specs.Prelude.{slice_get}
use Rattle.std.proofs.lemmas.List.{length-drop}
use Rattle.std.proofs.lemmas.Option.{slice_get-get_or}
use Rattle.pg_event.specs.declared.event.Event.{Event}
use Rattle.pg_event.specs.Spelling.{Recorded}
use Rattle.pg_search.specs.Changes.{kept_of}
use Rattle.pg_certify.specs.Windows.{CanBeAmong, with_window}
use Rattle.pg_certify.proofs.Founds.{each_more}
use Rattle.pg_certify.proofs.Windows.{denied_coming, found_coming, one_coming, rest_coming}
use Rattle.pg_certify.proofs.window.first_denied_in.Goals as goal

-- the event at a place
here : (xs : List Event) (i : ℕ) (x : Event) → i < length xs → x ≡ get_or xs i x → slice_get xs i ≡ Some x
here xs i x lt is = slice_get-get_or xs i x lt ∙ ap (λ (y : Event). Some y) (sym is)

pub returns-in-None-clause-kept : goal.returns-in-None-clause-kept
returns-in-None-clause-kept c =
    let window : List Event = c.args.window.now in
    let i : ℕ = c.loop-i.i in
    let same : c.find.new.self ≡ with_window c.args.certifier.now (take i window) = c.find.ensures.same ∙ c.loop-i.invariant.same in
    rest_coming c.args.certifier.now c.find.new.self c.keep_rest.new.self window _ i same (take_all _ (drop i window) (omega (arith, length-drop i window))) c.in_ok-keep_rest-in-None.ensures.ok

pub returns-in-None-clause-denied : goal.returns-in-None-clause-denied
returns-in-None-clause-denied c =
    let e : Event = c.index-window-i.result in
    let i : ℕ = c.loop-i.i in
    let window : List Event = c.args.window.now in
    let lt : i < length window = omega arith in
    let at : slice_get window i ≡ Some e = here window i e lt c.index-window-i.is in
    denied_coming c.args.certifier.now c.loop-i.certifier window i (c.len-first.result + i) e c.in_ok-find.field-0 c.loop-i.invariant.same (omega (arith, lt)) at
    (ap (λ n. n + i) c.len-first.ensures.length) c.in-None.is c.in_ok-find.ensures.names c.in_ok-find.ensures.none c.loop-i.invariant.before

pub loop-i-preserved : goal.loop-i-preserved
loop-i-preserved c =
    let e : Event = c.index-window-i.result in
    let i : ℕ = c.loop-i.i in
    let h : Recorded = c.args.certifier.now in
    let window : List Event = c.args.window.now in
    let lt : i < length window = omega arith in
    let at : slice_get window i ≡ Some e = here window i e lt c.index-window-i.is in
    let found = found_coming h c.loop-i.certifier window i (c.len-first.result + i) e c.in_ok-find.field-0 c.in-Some.field-0 c.loop-i.invariant.same (omega (arith, lt)) at
    (ap (λ n. n + i) c.len-first.ensures.length) c.in-Some.is c.in_ok-find.ensures.found in
    let seen : c.see.new.self ≡ with_window h (take i window) = c.see.ensures ∙ (c.find.ensures.same ∙ c.loop-i.invariant.same) in
    record {
      same = one_coming h c.see.new.self c.keep.new.self window i e seen at c.in_ok-keep-in-Some.ensures.ok;
      before = each_more (CanBeAmong h.head (h.events ++ map kept_of window) (length h.events) window) i c.loop-i.invariant.before found;
    }
