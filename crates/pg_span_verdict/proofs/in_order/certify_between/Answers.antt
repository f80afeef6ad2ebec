use Rattle.std.proofs.Common.{◌≡◌, List, ◌++◌, length, take, arith, ap, sym, ◌∙◌, subst}
use Rattle.std.specs.Prelude.{OnOk}
use Rattle.std.proofs.lemmas.List.{length-append, length-take}
use Rattle.pg_event.specs.declared.event.Event.{Event}
use Rattle.pg_event.specs.Heads.{Head}
use Rattle.pg_check.specs.Kept.{AreWellFormed}
use Rattle.pg_certify.specs.Windows.{IsCertifying}
use Rattle.pg_span_run.specs.Orders.{ordered}
use Rattle.pg_span_verdict.proofs.Meaning.{length-ordered, ordered-well}
use Rattle.pg_span_verdict.proofs.Ordered.{well_behind}
use Rattle.pg_span_verdict.proofs.in_order.certify_between.Goals as goal

pub window-requires : goal.window-requires
window-requires c =
    let events : List Event = c.args.run.now.events in
    let head : Head = c.args.run.now.head in
    let before : List Event = ordered events (take c.args.from c.args.numbers.now) in
    let window : List Event = c.deref.result.now in
    let all : ordered events (take c.args.to c.args.numbers.now) ≡ before ++ window = c.in_ok-window.ensures.more ∙ ap (λ xs. before ++ xs) (sym c.deref.ensures.value) in
    let well : AreWellFormed head (before ++ window) = subst (AreWellFormed head) all (ordered-well head events (take c.args.to c.args.numbers.now) c.in_ok-window.ensures.spanned.well) in
    let so_far = c.requires.before in
    record {
      before = before;
      certifying = subst (λ (h : Head). IsCertifying c.args.certifying.now h before) (sym so_far.settings) so_far;
      well = subst (λ (h : Head). AreWellFormed h window) (sym so_far.settings) (well_behind head before window well);
      limit = omega (arith, sym (length-append before window), ap length all, length-ordered events (take c.args.to c.args.numbers.now), length-take c.args.to c.args.numbers.now, c.requires.numbers.count, c.in_ok-window.ensures.spanned.count);
    }

pub returns : goal.returns
returns c =
    let head : Head = c.args.run.now.head in
    let before : List Event = ordered c.args.run.now.events (take c.args.from c.args.numbers.now) in
    let all = c.in_ok-window.ensures.more ∙ ap (λ xs. before ++ xs) (sym c.deref.ensures.value) in
    subst (λ (xs : List Event). OnOk c.window.result (IsCertifying c.window.new.self head xs)) (sym all)
    (c.window.ensures.ok head before c.requires.before)
