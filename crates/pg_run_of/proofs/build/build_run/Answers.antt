use Rattle.std.proofs.Common.{◌≡◌, List, [], ◌++◌, IfOk, IfErr, ap, subst, ◌∙◌}
use Rattle.pg_event.specs.Heads.{Head}
use Rattle.pg_event.specs.Spelling.{Recorded}
use Rattle.pg_run_of.specs.Build.{BuildsRun, IsNotAccepted}
use Rattle.pg_run_of.proofs.build.build_run.Goals as goal

pub returns-clause-run : goal.returns-clause-run
returns-clause-run c = subst (λ (r : Recorded). IfOk c.run_of.result (λ steps. BuildsRun r.head r.events steps.items))
    (c.in_ok-extend.ensures.ok
    ∙ ap (λ (r : Recorded). record { head = r.head; events = r.events ++ c.deref.result.now }) c.in_ok-history.ensures
    ∙ ap (λ (h : Head). record { head = h; events = c.deref.result.now }) c.in_ok-clone.ensures
    ∙ ap (λ xs. record { head = c.args.trace.now.header; events = xs }) c.deref.ensures.value)
    c.run_of.ensures.run

pub returns-clause-refused : goal.returns-clause-refused
returns-clause-refused c = subst (λ (r : Recorded). IfErr c.run_of.result (λ e. IsNotAccepted r.head r.events e))
    (c.in_ok-extend.ensures.ok
    ∙ ap (λ (r : Recorded). record { head = r.head; events = r.events ++ c.deref.result.now }) c.in_ok-history.ensures
    ∙ ap (λ (h : Head). record { head = h; events = c.deref.result.now }) c.in_ok-clone.ensures
    ∙ ap (λ xs. record { head = c.args.trace.now.header; events = xs }) c.deref.ensures.value)
    c.run_of.ensures.refused
