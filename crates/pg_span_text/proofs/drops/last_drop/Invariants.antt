use Rattle.std.proofs.Common.{◌≡◌, ◌<◌}
use Rattle.std.specs.Option.{ForSome}
use Rattle.pg_event.specs.Values.{control_at}
use Rattle.pg_span_text.specs.Drops.{last_below, drops_at}
use Rattle.pg_span_text.proofs.drops.last_drop.Given as goal

abbrev pub invariant-loop-i : goal.invariant-loop-i
invariant-loop-i l = record {
  control : l.control ≡ control_at l.run.head l.run.events l.p l.i;
  last : l.last ≡ last_below (drops_at l.run l.p l.pcid l.la) l.i;
  within : ForSome l.last (λ d. d < l.i);
}
