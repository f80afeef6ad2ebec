use Rattle.std.proofs.Common.{ℕ, List, inl, subst, ◌∙◌}
use Rattle.pg_report.specs.Changes.{filled}
use Rattle.pg_span_answers.specs.Answers.{GivesOut}
use Rattle.pg_span_answers.proofs.merging.give_run.Goals as goal

pub returns-in-Ok : goal.returns-in-Ok
returns-in-Ok g c =
    let output = filled g.O.Sink c.args.output.now c.give_out.new.output in
    let errors = filled g.E.Sink c.args.errors.now c.give_out.new.errors in
    inl (subst (λ (t : List ℕ). GivesOut t 0 output errors c.give_out.result) (c.deref.ensures.value ∙ c.in-Ok.ensures) c.give_out.ensures)
