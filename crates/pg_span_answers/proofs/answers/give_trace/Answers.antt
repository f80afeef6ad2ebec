use Rattle.std.proofs.Common.{ℕ, List, inl, subst, ◌∙◌}
use Rattle.pg_report.specs.Changes.{filled}
use Rattle.pg_span_answers.specs.Answers.{GivesOut}
use Rattle.pg_span_answers.specs.Texts.{trace_text}
use Rattle.pg_span_answers.proofs.answers.give_trace.Goals as goal

pub returns-in-Ok : goal.returns-in-Ok
returns-in-Ok g c =
    let output = filled g.O.Sink c.args.output.now c.give_out.new.output in
    let errors = filled g.E.Sink c.args.errors.now c.give_out.new.errors in
    let out = subst (λ (t : List ℕ). GivesOut t c.status_of.result output errors c.give_out.result) (c.as_bytes.ensures.value ∙ c.in-Ok.ensures) c.give_out.ensures in
    inl (subst (λ (n : ℕ). GivesOut (trace_text c.args.run.now c.args.verdict.now) n output errors c.give_out.result) c.status_of.ensures out)
