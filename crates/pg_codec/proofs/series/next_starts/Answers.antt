use Rattle.std.proofs.Common.{◌<◌, ◌^◌, refl}
use Rattle.std.proofs.lemmas.Result.{err_from_is_err_and}
use Rattle.pg_codec.proofs.Going.{along_on, along_ends, along_done}
use Rattle.pg_codec.proofs.Many.{starts_are_many}
use Rattle.std.proofs.lemmas.List.{length_push}
use Rattle.pg_codec.proofs.Pushing.{all_pushed}
use Rattle.pg_codec.proofs.series.next_starts.Goals as goal

pub returns-in_err-start-clause-pulls : goal.returns-in_err-start-clause-pulls
returns-in_err-start-clause-pulls g c =
    let p = err_from_is_err_and c.from_residual-in_err-start.result c.from_residual-in_err-start.ensures.1 in
    rw (p.1, p.2) (along_ends _ _ _ (starts_are_many c.args.maxphyaddr) 0 c.args.count c.loop.starts.items c.loop.counter c.in_err-start.field-0.0 _ _ _ c.loop-test.true c.loop.invariant.along c.in_err-start.ensures.pulls)

pub loop-preserved : goal.loop-preserved
loop-preserved g c =
    let was = c.loop.invariant in
    let step = c.in_ok-start.ensures in
    record {
      along = rw c.in_ok-push.ensures.items (along_on _ _ _ (starts_are_many c.args.maxphyaddr) 0 c.args.count c.loop.starts.items c.loop.counter c.in_ok-start.start _ _ _ c.loop-test.true was.along step.pulls);
      starts = rw c.in_ok-push.ensures.items (all_pushed (λ s. s.0 < 2 ^ c.args.maxphyaddr) c.loop.starts.items c.in_ok-start.start was.starts step.cr3);
      len = rw (c.in_ok-push.ensures.items, length_push c.loop.starts.items c.in_ok-start.start, was.len) refl;
    }

pub returns-clause-pulls : goal.returns-clause-pulls
returns-clause-pulls g c = along_done _ _ _ (starts_are_many c.args.maxphyaddr) 0 c.args.count c.loop.starts.items c.loop.counter _ _ c.loop-test.false c.loop.invariant.along
