use Rattle.std.proofs.Common.{ℕ, ◌<◌, ◌+◌, ◌-◌, ◌/◌, length, arith}
use Rattle.pg_reach.proofs.Order.{count_right, count_left}
use Rattle.pg_reach.proofs.stays.count_to.Goals as goal

pub loop-low-preserved-then-spans-middle : goal.loop-low-preserved-then-spans-middle
loop-low-preserved-then-spans-middle c =
    let middle : ℕ = c.loop-low.low + (c.loop-low.high - c.loop-low.low) / 2 in
    let below : middle < c.loop-low.high = omega (arith, c.loop-low-test.true) in
    let within : middle < length c.args.spans.now = omega (arith, below, c.loop-low.invariant.within) in
    record {
      order = omega (arith, below);
      within = c.loop-low.invariant.within;
      before = count_right c.args.spans.now c.args.moment middle _ c.requires within c.if-spans-middle.true;
      behind = c.loop-low.invariant.behind;
    }

pub loop-low-preserved : goal.loop-low-preserved
loop-low-preserved c =
    let middle : ℕ = c.loop-low.low + (c.loop-low.high - c.loop-low.low) / 2 in
    let below : middle < c.loop-low.high = omega (arith, c.loop-low-test.true) in
    let within : middle < length c.args.spans.now = omega (arith, below, c.loop-low.invariant.within) in
    record {
      order = omega (arith, below);
      within = omega (arith, within);
      before = c.loop-low.invariant.before;
      behind = count_left c.args.spans.now c.args.moment middle _ c.requires within c.if-spans-middle.false;
    }
