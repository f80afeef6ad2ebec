use Rattle.std.proofs.Common.{◌<◌, ◌^◌, refl, ap}
use Rattle.std.proofs.lemmas.Result.{err_from_is_err_and}
use Rattle.std.proofs.lemmas.List.{length_push}
use Rattle.pg_codec.proofs.Many.{goes_on, ends, is_done, starts_are_many}
use Rattle.pg_codec.proofs.Pushing.{all_pushed}
use Rattle.pg_span_run.specs.Reading.{plain}
use Rattle.pg_span_run.proofs.header.starts_of.Goals as goal

pub returns-in_err-start-clause-value : goal.returns-in_err-start-clause-value
returns-in_err-start-clause-value c =
    let p = err_from_is_err_and c.from_residual-in_err-start.result c.from_residual-in_err-start.ensures.1 in
    rw (p.1, p.2) (ap plain (ends _ _ (starts_are_many c.args.maxphyaddr) c.loop.starts.items 0 c.args.count c.loop.counter c.loop.rest.now c.in_err-start.field-0.0 _ c.loop-test.true c.in_err-start.ensures.value c.loop.invariant.same))

pub loop-preserved : goal.loop-preserved
loop-preserved c =
    let was = c.loop.invariant in
    let step = c.in_ok-start.ensures in
    record {
      same = rw c.in_ok-push.ensures.items (goes_on _ _ (starts_are_many c.args.maxphyaddr) c.loop.starts.items 0 c.args.count c.loop.counter c.loop.rest.now c.in_ok-start.start c.in_ok-start.behind.now _ c.loop-test.true step.value was.same);
      starts = rw c.in_ok-push.ensures.items (all_pushed (λ s. s.0 < 2 ^ c.args.maxphyaddr) c.loop.starts.items c.in_ok-start.start was.starts step.cr3);
      len = rw (c.in_ok-push.ensures.items, length_push c.loop.starts.items c.in_ok-start.start, was.len) refl;
    }

pub returns-clause-value : goal.returns-clause-value
returns-clause-value c = ap plain (is_done _ _ (starts_are_many c.args.maxphyaddr) c.loop.starts.items 0 c.args.count c.loop.counter c.loop.rest.now _ c.loop-test.false c.loop.invariant.same)
