use Rattle.std.proofs.Common.{◌≡◌, ◌≤◌, take}
use Rattle.pg_machine.specs.Machine.{IsIn}
use Rattle.pg_span_refute.specs.declared.edge.Edge.{Edge}
use Rattle.pg_span_refute.specs.Memory.{IsOwn}
use Rattle.pg_span_refute.proofs.slot.is_supposed_later.Given as goal

abbrev pub invariant-loop-edge : goal.invariant-loop-edge
invariant-loop-edge l = (e : Edge) → IsIn e (take l.edge-index l.slot.edges.now) → (e.second ≡ l.j) → l.slot.next ≤ e.first → IsOwn l.run.events l.slot.p e.first → ⊥
