use Rattle.std.proofs.Common.{◌≡◌}
use Rattle.pg_event.specs.Values.{control_at}
use Rattle.pg_span_text.proofs.drops.control_before.Given as goal

abbrev pub invariant-loop-i : goal.invariant-loop-i
invariant-loop-i l = l.control ≡ control_at l.run.head l.run.events l.p l.i
