use Rattle.std.proofs.Common.{◌+◌, take, arith}
use Rattle.pg_inval.specs.Lists.{has_among}
use Rattle.pg_inval.proofs.AnyFrom.{IsLeastBetween-same, IsLeastBetween-both}
use Rattle.pg_inval.proofs.Logs.{has_among-more}
use Rattle.pg_inval.proofs.listed.Listed.first_among.Goals as goal

pub loop-key-preserved : goal.loop-key-preserved
loop-key-preserved c =
    let log = c.args.log.now in
    let keys = c.args.keys.now in
    let i = c.loop-key.key-index in
    let both = IsLeastBetween-both _ _ c.args.window.from c.args.window.to c.loop-key.found c.first_at.result c.loop-key.invariant.0 (rw c.unwrap_or-to.ensures at c.first_at.ensures.least) in (
      rw c.or-found.ensures
          (IsLeastBetween-same _ (has_among log (take (i + 1) keys)) c.args.window.from c.args.window.to _
          (λ j low. has_among-more log keys i _ j c.loop-key-test.true) both),
      omega (arith, c.loop-key.invariant.1, c.first_at.ensures.probes.0),
      omega (arith, c.loop-key.invariant.2, c.first_at.ensures.probes.1),
    )
