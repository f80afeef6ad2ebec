use Rattle.std.proofs.Common.{take}
use Rattle.pg_report.specs.Merging.{AreCounts}
use Rattle.pg_report.proofs.merger.counts_of.Given as goal

abbrev pub invariant-loop-verdict : goal.invariant-loop-verdict
invariant-loop-verdict l = AreCounts l.round (take l.verdict-index l.verdicts) l.counts.items
