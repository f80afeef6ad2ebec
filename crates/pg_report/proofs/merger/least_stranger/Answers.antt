use Rattle.std.proofs.Common.{true≢false, sym, ◌∙◌}
use Rattle.pg_report.proofs.Merged.{seen-stays, seen-comes}
use Rattle.pg_report.proofs.merger.least_stranger.Goals as goal
use Rattle.pg_report.proofs.merger.least_stranger.Goals.{then-not-is_in, else-not-is_in}

pub loop-verdict-preserved : goal.loop-verdict-preserved
loop-verdict-preserved c = elim c.if-not-is_in.branch [
  | then-not-is_in w ↦ seen-comes c.args.round c.args.verdicts.now c.loop-verdict.verdict-index _ c.loop-verdict-test.true c.loop-verdict.least c.if-not-is_in.least w.lower_verdict.result w.least-is c.loop-verdict.invariant (λ within. absurd (true≢false (sym (c.is_in.ensures.1 within) ∙ w.if-not-is_in.true))) w.lower_verdict.ensures
  | else-not-is_in w ↦ seen-stays c.args.round c.args.verdicts.now c.loop-verdict.verdict-index _ c.loop-verdict-test.true c.loop-verdict.least c.if-not-is_in.least w.least-is c.loop-verdict.invariant (c.is_in.ensures.0 w.if-not-is_in.false)
]
