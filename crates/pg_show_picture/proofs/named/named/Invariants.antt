use Rattle.std.proofs.Common.{◌≡◌, ◌≤◌, ◌++◌, drop, length}
use Rattle.pg_show_picture.specs.Named.{named_from, named}
use Rattle.pg_show_picture.proofs.named.named.Given as goal

abbrev pub invariant-loop-i : goal.invariant-loop-i
invariant-loop-i l = record {
  numbers : l.found.items ++ named_from l.explanation l.walk l.i (drop l.i l.events) ≡ named l.explanation l.walk l.events;
  count : length l.found.items ≤ l.i;
}
