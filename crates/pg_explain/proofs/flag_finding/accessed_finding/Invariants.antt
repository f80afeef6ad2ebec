use Rattle.std.proofs.Common.{◌≡◌, drop, map}
use Rattle.pg_chain.specs.Walked.{reading_of}
use Rattle.pg_explain.specs.Findings.{accessed_finding}
use Rattle.pg_explain.proofs.flag_finding.accessed_finding.Given as goal

abbrev pub invariant-loop-i : goal.invariant-loop-i
invariant-loop-i l =
    accessed_finding l.uses (map reading_of (drop l.i l.steps)) ≡ accessed_finding l.uses (map reading_of l.steps)
