use Rattle.std.proofs.Common.{◌≡◌, ◌+◌, ◌-◌, length}
use Rattle.pg_span_run.specs.Reading.{next_events_at}
use Rattle.pg_span_run.proofs.reader.read_events.Given as goal

abbrev pub invariant-loop : goal.invariant-loop
invariant-loop l = record {
  same : next_events_at (l.count - l.counter) l.run l.rest ≡ next_events_at l.count l.fn.run l.bytes;
  count : length l.run.events ≡ length l.fn.run.events + l.counter;
  head : l.run.head ≡ l.fn.run.head;
}
