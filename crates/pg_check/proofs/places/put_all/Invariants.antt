use Rattle.std.proofs.Common.{ℕ}
use Rattle.pg_chain.specs.declared.past.Past.{Past}
use Rattle.pg_check.specs.Remembered.{HaveWalks}
use Rattle.pg_check.proofs.places.put_all.Given as goal

abbrev pub invariant-loop-kept : goal.invariant-loop-kept
invariant-loop-kept l = (past : Past) (limit : ℕ) → HaveWalks past limit l.from → HaveWalks past limit l.fn.to.items → HaveWalks past limit l.to.items
