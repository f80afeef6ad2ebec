use Rattle.std.proofs.Common.{◌≡◌, false, drop}
use Rattle.std.specs.List.{list_any}
use Rattle.pg_machine.specs.Machine.{same_structure}
use Rattle.pg_machine.proofs.processor.is_among.Given as goal

abbrev pub invariant-loop-i : goal.invariant-loop-i
invariant-loop-i l = list_any (same_structure l.wanted) (drop l.i l.entries) ≡ false
