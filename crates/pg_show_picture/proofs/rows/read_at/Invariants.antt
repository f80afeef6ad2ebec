use Rattle.std.proofs.Common.{◌≡◌, ◌≤◌, take}
use Rattle.pg_show_picture.specs.Layout.{read_at}
use Rattle.pg_show_picture.proofs.rows.read_at.Given as goal

abbrev pub invariant-loop-entry : goal.invariant-loop-entry
invariant-loop-entry l = record {
  count : l.count ≡ read_at (take l.entry-index l.walk) l.moment;
  within : l.count ≤ l.entry-index;
}
