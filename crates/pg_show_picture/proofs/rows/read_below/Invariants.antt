use Rattle.std.proofs.Common.{◌≡◌, ◌≤◌, take}
use Rattle.pg_show_picture.specs.Layout.{read_below}
use Rattle.pg_show_picture.proofs.rows.read_below.Given as goal

abbrev pub invariant-loop-entry : goal.invariant-loop-entry
invariant-loop-entry l = record {
  count : l.count ≡ read_below (take l.entry-index l.walk) l.limit;
  within : l.count ≤ l.entry-index;
}
