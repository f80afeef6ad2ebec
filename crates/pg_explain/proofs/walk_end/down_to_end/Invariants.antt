use Rattle.std.proofs.Common.{◌≡◌, ◌++◌, take, drop}
use Rattle.pg_explain.specs.Walk.{down_to_end}
use Rattle.pg_explain.proofs.walk_end.down_to_end.Given as goal

abbrev pub invariant-loop-i : goal.invariant-loop-i
invariant-loop-i l = take l.i l.walk ++ down_to_end (drop l.i l.walk) ≡ down_to_end l.walk
