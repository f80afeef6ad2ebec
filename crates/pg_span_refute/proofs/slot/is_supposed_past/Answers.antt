use Rattle.std.proofs.Common.{◌≡◌, ◌<◌, List, true, get_or, refl, sym, subst, arith}
use Rattle.pg_event.specs.declared.event.Event.{Event}
use Rattle.pg_span_refute.specs.declared.edge.Edge.{Edge}
use Rattle.pg_span_refute.specs.Memory.{IsOwn}
use Rattle.pg_span_refute.proofs.Taken.{in_get, one_more_get}
use Rattle.pg_span_refute.proofs.slot.is_supposed_past.Goals as goal
use Rattle.pg_span_refute.proofs.slot.is_supposed_past.Goals.{else-edge-j-via-then-edge-j+then-edge-slot+else-is_own, else-edge-j-via-then-edge-j+else-edge-slot, else-edge-j-via-else-edge-j}

pub returns-then-is_own : goal.returns-then-is_own
returns-then-is_own c = (
  λ yes. record {
    edge = _;
    there = in_get c.args.slot.edges.now c.loop-edge.edge-index (record { first = 0; second = 0 }) c.loop-edge-test.true;
    first = c.if-edge-j.true;
    came = c.if-edge-slot.true;
    own = subst (λ es. IsOwn es c.args.slot.p (get_or c.args.slot.edges.now c.loop-edge.edge-index (record { first = 0; second = 0 })).second) c.events.ensures.events (c.is_own.ensures.0 c.if-is_own.true);
  },
  λ is. refl,
)

pub loop-edge-preserved : goal.loop-edge-preserved
loop-edge-preserved c =
    let edge : Edge = get_or c.args.slot.edges.now c.loop-edge.edge-index (record { first = 0; second = 0 }) in
    one_more_get (λ (e : Edge). e.first ≡ c.args.j → e.second < c.args.slot.next → IsOwn c.args.run.now.events c.args.slot.p e.second → ⊥) c.args.slot.edges.now c.loop-edge.edge-index
    (record { first = 0; second = 0 }) c.loop-edge-test.true c.loop-edge.invariant
    (λ same there own. elim c.else-edge-j.branch [
      | else-edge-j-via-then-edge-j+then-edge-slot+else-is_own w ↦
          let is : w.is_own.result ≡ true = w.is_own.ensures.1 (subst (λ (es : List Event). IsOwn es c.args.slot.p edge.second) (sym w.events.ensures.events) own) in
          let isnt = w.if-is_own.false in
          absurd (cc)
      | else-edge-j-via-then-edge-j+else-edge-slot w ↦ absurd (omega (arith, w.if-edge-slot.false, there))
      | else-edge-j-via-else-edge-j w ↦ absurd (w.if-edge-j.false same)
    ])
