use Rattle.std.proofs.Common.{◌≡◌, drop, map}
use Rattle.pg_chain.specs.Walked.{reading_of}
use Rattle.pg_explain.specs.Findings.{entry_finding}
use Rattle.pg_explain.proofs.walk_finding.entry_finding.Given as goal

abbrev pub invariant-loop-i : goal.invariant-loop-i
invariant-loop-i l =
    entry_finding l.cfg l.want (map reading_of (drop l.i l.steps))
    ≡ entry_finding l.cfg l.want (map reading_of l.steps)
