use Rattle.std.proofs.Common.{take}
use Rattle.pg_span_refute.proofs.Taken.{in_front, in_get}
use Rattle.pg_span_refute.proofs.words.is_overwritten.Goals as goal

pub must_precede-requires : goal.must_precede-requires
must_precede-requires c = c.requires _ (in_front c.args.writes.now c.min.result _ (in_get (take c.min.result c.args.writes.now) c.loop-written.written-index _ c.loop-written-test.true))

pub returns-then-must_precede : goal.returns-then-must_precede
returns-then-must_precede c = λ yes. record {
  by = _;
  there = in_front c.args.writes.now c.min.result _ (in_get (take c.min.result c.args.writes.now) c.loop-written.written-index (record { number = 0; value = 0 }) c.loop-written-test.true);
  past = c.is_past.ensures.0 c.if-is_past.true;
  follows = c.must_precede.ensures.0 c.if-must_precede.true;
}
