use Rattle.std.proofs.Common.{List, ap, subst, sym, ◌∙◌}
use Rattle.std.proofs.lemmas.Result.{IfOk-weaker}
use Rattle.pg_event.specs.Heads.{Head}
use Rattle.pg_event.specs.declared.event.Event.{Event}
use Rattle.pg_run_of.specs.Plan.{steps_from}
use Rattle.pg_run_of.specs.Build.{BuildsRun}
use Rattle.pg_run_of.proofs.Fills.{plan_is}
use Rattle.pg_run_of.proofs.Built.{built}
use Rattle.pg_run_of.proofs.plan.plan_run.Goals as goal

pub returns : goal.returns
returns c =
    let head : Head = c.args.history.now.head in
    let all : List Event = c.args.history.now.events in
    let is = ap (steps_from c.deref.result.now 0) c.events.ensures.events ∙ plan_is head all _ _ _ c.in_ok-fills.ensures.fills c.sort_fills.ensures.same c.deref.ensures.value in
    IfOk-weaker c.place.result _ _
    (λ steps h. subst (λ xs. BuildsRun head all xs) (sym (h ∙ is)) (built head all c.events.ensures.well c.requires _ c.in_ok-fills.ensures.fills c.in_ok-fills.ensures.few))
    c.place.ensures
