use Rattle.std.proofs.Common.{◌≡◌, ◌-◌}
use Rattle.pg_event.specs.Values.{control_at}
use Rattle.pg_span_text.specs.Drops.{roots_from}
use Rattle.pg_span_text.proofs.drops.roots.Given as goal

abbrev pub invariant-loop-i : goal.invariant-loop-i
invariant-loop-i l = record {
  control : l.control ≡ control_at l.run.head l.run.events l.p l.i;
  tables : l.tables.items ≡ roots_from l.run l.p l.pcid l.from (l.i - l.from);
}
