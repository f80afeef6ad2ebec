use Rattle.std.proofs.Common.{◌≡◌, ◌-◌, length}
use Rattle.pg_span_run.specs.LogReading.{events_at}
use Rattle.pg_span_run.proofs.LogReadings.{followed}
use Rattle.pg_span_run.proofs.log_reader.events_of.Given as goal

abbrev pub invariant-loop-i : goal.invariant-loop-i
invariant-loop-i l = events_at (length l.bytes) l.header l.own 0 0 l.bytes ≡ followed l.events.items (events_at (length l.bytes - l.i) l.header l.own l.i l.last l.rest)
