use Rattle.std.proofs.Common.{◌≡◌, drop}
use Rattle.pg_entry.specs.declared.Level.TheVariants.{Four}
use Rattle.pg_explain.specs.Findings.{order_finding}
use Rattle.pg_explain.proofs.walk_finding.order_finding.Given as goal

abbrev pub invariant-loop-i : goal.invariant-loop-i
invariant-loop-i l =
    order_finding l.number l.level (drop l.i l.moments) ≡ order_finding l.number Four l.moments
