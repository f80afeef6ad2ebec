use Rattle.std.proofs.Common.{◌≡◌, ◌-◌, ◌<◌, ◌^◌, length}
use Rattle.std.specs.List.{AllByRecursion}
use Rattle.pg_event.specs.Reading.{starts_at}
use Rattle.pg_codec.specs.Parts.{with_front}
use Rattle.pg_span_run.proofs.header.starts_of.Given as goal

abbrev pub invariant-loop : goal.invariant-loop
invariant-loop l = record {
  same : with_front l.starts.items (starts_at l.maxphyaddr (l.count - l.counter) l.rest) ≡ starts_at l.maxphyaddr l.count l.bytes;
  starts : AllByRecursion (λ s. s.0 < 2 ^ l.maxphyaddr) l.starts.items;
  len : length l.starts.items ≡ l.counter;
}
