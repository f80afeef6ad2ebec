-- Reading bytes from left to right: the log that they are, or the first refusal.
-- A field is read whole, else the bytes are cut; then it is checked.
use Rattle.std.specs.Prelude.{ℕ, zero, suc, ◌+◌, ◌&&◌, ◌==◌, nat_lt, if◌then◌else◌}
use Rattle.std.specs.Prelude.{List, [], ◌∷◌, length, take, drop, codes, Option, Some, None}
use Rattle.std.specs.Prelude.{Result, Ok, Err}
use Rattle.std.specs.Str.{bytes_eq}
use Rattle.std.specs.Int.{w16, w64}
use Rattle.pg_event.specs.declared.event.Event.{Event}
use Rattle.pg_event.specs.declared.refusal.Refusal.TheVariants as refusals
use Rattle.pg_event.specs.Heads.{Head, most_processors}
use Rattle.pg_event.specs.Form.{processor_of}
use Rattle.pg_event.specs.Reading.{◌>>=◌, Part, number_at, passing, is_between}
use Rattle.pg_event.specs.Reading.{version_at, start_at}
use Rattle.pg_codec.specs.declared.naming.Naming.TheVariants.{Bare}
use Rattle.pg_codec.specs.Bare.{event_in}
use Rattle.pg_codec.specs.Parts.{cfg_at}
use Rattle.pg_span_run.specs.declared.log.LogHeader.{LogHeader}
use Rattle.pg_span_run.specs.declared.log.Stamped.{Stamped}
use Rattle.pg_span_run.specs.declared.log_error.LogRefusal.{LogRefusal}
use Rattle.pg_span_run.specs.declared.log_error.LogRefusal.TheVariants as faults
use Rattle.pg_span_run.specs.Logs.{Logged, alone, end_mark}

-- what reading a part of a log gives: its value and the bytes after it
abbrev pub LogPart : Type 0 → Type 0
LogPart A = Result (A × List ℕ) LogRefusal

-- a part that a record has too
abbrev pub field : {A : Type 0} → Part A → LogPart A
field (Ok x) = Ok x
field (Err e) = Err (faults.Field e)

unfoldable pub log_magic_at : List ℕ → Part (List ℕ)
log_magic_at bytes =
    if nat_lt (length bytes) 8 then Err refusals.Truncated else
    if bytes_eq (take 8 bytes) (codes "PGCPULOG") then Ok (take 8 bytes, drop 8 bytes) else
    Err refusals.Magic

unfoldable pub log_header_at : List ℕ → Part LogHeader
log_header_at bytes = do
  magic ← log_magic_at bytes
  version ← version_at magic.1
  cfg ← cfg_at version.1
  count ←
      passing (is_between 1 (most_processors version.0)) refusals.HeaderField
      (number_at w16 cfg.1)
  own ← passing (λ n. nat_lt n count.0) refusals.HeaderField (number_at w16 count.1)
  start ← start_at cfg.0.m own.1
  Ok (
    record {
      version = version.0;
      cfg = cfg.0;
      processors = count.0;
      own = own.0;
      start = start.0;
    },
    start.1,
  )

-- an event has to be of the log's processor
abbrev pub own_at : ℕ → ℕ → ℕ → ℕ → Event × List ℕ → LogPart Stamped
own_at own i begin end e =
    if processor_of e.0 == own then
    Ok (record { begin = begin; end = end; event = e.0 }, e.1) else Err (faults.Processor i)

-- event number i, after its begin stamp
unfoldable pub stamped_at : Head → ℕ → ℕ → ℕ → List ℕ → LogPart Stamped
stamped_at head own i begin bytes = do
  end ← field (number_at w64 bytes)
  if nat_lt begin end.0 && nat_lt end.0 end_mark then
      (field (event_in Bare head i end.1) >>= own_at own i begin end.0) else Err (faults.Stamps i)

-- the end mark, after its first field, of a log with so many events
unfoldable pub end_at : ℕ → List ℕ → LogPart (Option Stamped)
end_at total bytes = do
  found ← field (passing (λ n. n == total) refusals.Total (number_at w64 bytes))
  Ok (None, found.1)

-- event number i, which begins above a stamp, or none at the end mark
unfoldable pub next_at : Head → ℕ → ℕ → ℕ → List ℕ → LogPart (Option Stamped)
next_at head own i last bytes = do
  begin ← field (number_at w64 bytes)
  if begin.0 == end_mark then end_at i begin.1 else
      (if nat_lt last begin.0 then
      (stamped_at head own i begin.0 begin.1 >>= λ x. Ok (Some x.0, x.1))
      else Err (faults.Stamps i))

-- the events up to the end mark, from number i on, above a stamp. The first number bounds how many
-- there are
unfoldable pub events_at : ℕ → Head → ℕ → ℕ → ℕ → List ℕ → LogPart (List Stamped)
events_at zero head own i last bytes = Err (faults.Field refusals.Truncated)
events_at (suc n) head own i last bytes = do
  next ← next_at head own i last bytes
  elim next.0 [
    | None ↦ Ok ([], next.1)
    | Some x ↦
        events_at n head own (i + 1) x.end next.1 >>= λ others. Ok (x ∷ others.0, others.1)
  ]

-- all of the bytes
unfoldable pub log_reading : List ℕ → Result Logged LogRefusal
log_reading bytes = do
  head ← field (log_header_at bytes)
  events ← events_at (length head.1) (alone head.0) head.0.own 0 0 head.1
  if length events.1 == 0 then Ok (record { head = head.0; events = events.0 }) else
      Err (faults.Field refusals.Trailing)
