use Rattle.pg_outcomes.proofs.Words.{HaveFirst}
use Rattle.pg_outcomes.proofs.pages.pages_before.Given as goal

abbrev pub invariant-loop-left : goal.invariant-loop-left
invariant-loop-left l = HaveFirst l.seen l.la l.left-items l.left-index l.pages.items
