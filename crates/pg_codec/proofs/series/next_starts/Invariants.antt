use Rattle.std.proofs.Common.{◌≡◌, ◌<◌, ◌^◌, length}
use Rattle.std.specs.List.{AllByRecursion}
use Rattle.pg_event.specs.Reading.{starts_at}
use Rattle.pg_codec.proofs.Going.{IsAlong, at_place}
use Rattle.pg_codec.proofs.Many.{starts_are_many}
use Rattle.pg_codec.proofs.series.next_starts.Given as goal

abbrev pub invariant-loop : goal.invariant-loop
invariant-loop g l = record {
  along : IsAlong g.R.Source (starts_at l.maxphyaddr l.count) (at_place _ _ (starts_are_many l.maxphyaddr) 0 l.count l.starts.items l.counter) (l.fn.buffer, l.fn.source) (l.buffer, l.source);
  starts : AllByRecursion (λ s. s.0 < 2 ^ l.maxphyaddr) l.starts.items;
  len : length l.starts.items ≡ l.counter;
}
