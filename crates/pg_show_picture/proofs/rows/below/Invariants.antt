use Rattle.std.proofs.Common.{◌≡◌, ◌≤◌, take}
use Rattle.pg_show_picture.specs.Layout.{below}
use Rattle.pg_show_picture.proofs.rows.below.Given as goal

abbrev pub invariant-loop-number : goal.invariant-loop-number
invariant-loop-number l = record {
  count : l.count ≡ below (take l.number-index l.numbers) l.limit;
  within : l.count ≤ l.number-index;
}
