use Rattle.std.proofs.Common.{sym, ◌∙◌, arith}
use Rattle.std.proofs.lemmas.Result.{err_from_is_err_and}
use Rattle.pg_span_run.proofs.Steps.{error_answers, events_on, events_fail}
use Rattle.pg_span_run.proofs.reader.read_events.Goals as goal

pub returns-in_err-rest-clause-answers : goal.returns-in_err-rest-clause-answers
returns-in_err-rest-clause-answers c =
    let p = err_from_is_err_and c.from_residual.result c.from_residual.ensures.1 in
    rw (p.1, p.2) (error_answers c.in_err-rest.field-0.0 _ _ (λ d h. sym c.loop.invariant.same ∙ events_fail c.args.count c.loop.counter c.loop.run c.loop.rest.now c.loop-test.true d h) c.in_err-rest.ensures.answers)

pub loop-preserved : goal.loop-preserved
loop-preserved c =
    let was = c.loop.invariant in
    let step = c.in_ok-rest.ensures in
    record {
      same = sym (events_on c.args.count c.loop.counter c.loop.run c.loop.rest.now c.loop-test.true c.read_event.new.run c.in_ok-rest.rest.now step.answers) ∙ was.same;
      count = omega (arith, step.one, was.count);
      head = step.head ∙ was.head;
    }
