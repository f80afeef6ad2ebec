use Rattle.std.proofs.Common.{◌≡◌, drop}
use Rattle.pg_explain.specs.Findings.{context_finding}
use Rattle.pg_explain.proofs.walk_finding.context_finding.Given as goal

abbrev pub invariant-loop-moment : goal.invariant-loop-moment
invariant-loop-moment l =
    context_finding l.history.head l.history.events l.p l.first (drop l.moment-index l.moments)
    ≡ context_finding l.history.head l.history.events l.p l.first l.moments
