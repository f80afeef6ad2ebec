use Rattle.std.proofs.Common.{◌≡◌, ℕ, ◌+◌, ◌-◌, ◌≤◌, ◌++◌, List, length, take, drop, None, sym, ap, ◌∙◌, subst, arith, take-add, length-take-le, length-drop}
use Rattle.std.specs.Prelude.{OnOk}
use Rattle.std.proofs.lemmas.List.Elements.{All-take, All-drop, All-from_recursion, recursion_from_All}
use Rattle.pg_event.specs.declared.event.Event.{Event}
use Rattle.pg_event.specs.Heads.{Head}
use Rattle.pg_event.specs.Form.{broken_rule}
use Rattle.pg_check.specs.Kept.{AreWellFormed}
use Rattle.pg_certify.specs.Windows.{IsCertifying}
use Rattle.pg_test_meaning.proofs.windows.take_window.Goals as goal

-- the events between two places are well formed where all are

well_between : (head : Head) (xs : List Event) (m n : ℕ) → AreWellFormed head xs → AreWellFormed head (take n (drop m xs))
well_between head xs m n h =
    recursion_from_All (λ e. broken_rule head e ≡ None) (take n (drop m xs)) (All-take (λ e. broken_rule head e ≡ None) n (drop m xs) (All-drop (λ e. broken_rule head e ≡ None) m xs (All-from_recursion (λ e. broken_rule head e ≡ None) xs h)))

pub window-requires : goal.window-requires
window-requires c =
    let xs : List Event = c.args.history.now.events in
    let ys : List Event = c.events-events.result.now in
    let is : ys ≡ xs = c.events-events.ensures.events in
    let from = c.args.from in
    let n = c.args.to - c.args.from in
    let before = c.requires.before in
    let well = subst (λ zs. AreWellFormed c.args.history.now.head (take n (drop from zs))) (sym is) (well_between c.args.history.now.head xs from n c.events-events.ensures.well) in
    let first : length (take from xs) ≡ from = length-take-le from xs (omega (arith, c.requires.within.0, c.requires.within.1)) in
    let low : length xs ≤ length ys = subst (λ zs. length xs ≤ length zs) (sym is) (omega arith) in
    let second : length (take n (drop from ys)) ≡ n = length-take-le n (drop from ys) (omega (arith, low, length-drop from ys, c.requires.within.1)) in
    record {
      before = take from xs;
      certifying = subst (λ (h : Head). IsCertifying c.args.certifying.now h (take from xs)) (sym before.settings) before;
      well = subst (λ (h : Head). AreWellFormed h (take n (drop from ys))) (sym before.settings) well;
      limit = omega (arith, first, second, c.requires.within.0, c.requires.within.1, c.events-events.ensures.count);
    }

pub returns : goal.returns
returns c =
    let xs : List Event = c.args.history.now.events in
    let from = c.args.from in
    let n = c.args.to - c.args.from in
    let all : from + n ≡ c.args.to = omega (arith, c.requires.within.0) in
    let joined : take from xs ++ take n (drop from c.events-events.result.now) ≡ take c.args.to xs =
    ap (λ zs. take from xs ++ take n (drop from zs)) c.events-events.ensures.events ∙ sym (take-add from n xs) ∙ ap (λ k. take k xs) all in
    subst (λ zs. OnOk c.window.result (IsCertifying c.window.new.self c.args.history.now.head zs)) joined
    (c.window.ensures.ok c.args.history.now.head (take from xs) c.requires.before)
