use Rattle.pg_guest.proofs.Placed.{AreMade}
use Rattle.pg_guest.proofs.driver.processors.Given as goal

abbrev pub invariant-loop-p : goal.invariant-loop-p
invariant-loop-p l = AreMade l.script l.p l.processors.items
