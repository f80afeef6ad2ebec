use Rattle.std.proofs.Common.{◌≡◌, length}
use Rattle.std.specs.List.{AllByRecursion}
use Rattle.std.specs.Prelude.{None}
use Rattle.pg_event.specs.Form.{broken_rule}
use Rattle.pg_event.specs.Reading.{events_at}
use Rattle.pg_codec.proofs.Going.{IsAlong, at_place}
use Rattle.pg_codec.proofs.Many.{events_are_many}
use Rattle.pg_codec.proofs.series.next_events.Given as goal

abbrev pub invariant-loop-i : goal.invariant-loop-i
invariant-loop-i g l = record {
  along : IsAlong g.R.Source (events_at l.header l.before l.count) (at_place _ _ (events_are_many l.header) l.before l.count l.events.items l.i) (l.fn.buffer, l.fn.source) (l.buffer, l.source);
  well : AllByRecursion (λ e. broken_rule l.header e ≡ None) l.events.items;
  len : length l.events.items ≡ l.i;
}
