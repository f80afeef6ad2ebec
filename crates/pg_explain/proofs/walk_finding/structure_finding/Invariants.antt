use Rattle.std.proofs.Common.{◌≡◌, drop, map}
use Rattle.pg_chain.specs.Walked.{reading_of}
use Rattle.pg_explain.specs.Findings.{structure_finding}
use Rattle.pg_explain.proofs.walk_finding.structure_finding.Given as goal

abbrev pub invariant-loop-i : goal.invariant-loop-i
invariant-loop-i l =
    structure_finding l.history.head l.history.events l.p l.pcid l.la (map reading_of (drop l.i l.steps))
    ≡ structure_finding l.history.head l.history.events l.p l.pcid l.la (map reading_of l.steps)
