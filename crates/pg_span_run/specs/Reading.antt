-- Reading bytes from left to right: the run that they spell, or the first refusal.
-- A field is read whole, else the bytes are cut; then it is checked.
use Rattle.std.specs.Prelude.{ℕ, zero, suc, ◌+◌, ◌^◌, Bool, true, ◌&&◌, ◌||◌, ◌==◌, nat_lt}
use Rattle.std.specs.Prelude.{nat_le, if◌then◌else◌, List, [], ◌∷◌, ◌++◌, length}
use Rattle.std.specs.Prelude.{Option, Some, None, Result, Ok, Err}
use Rattle.std.specs.Int.{w16, w32}
use Rattle.pg_event.specs.declared.event.Malformed.{Malformed}
use Rattle.pg_event.specs.declared.refusal.Refusal.TheVariants as refusals
use Rattle.pg_event.specs.declared.version.Version.{Version}
use Rattle.pg_event.specs.declared.version.Version.TheVariants as versions
use Rattle.pg_event.specs.Heads.{Head}
use Rattle.pg_event.specs.Form.{broken_rule}
use Rattle.pg_event.specs.Reading.{◌>>=◌, Part, byte_at, number_at, passing, is_between, magic_at}
use Rattle.pg_event.specs.Reading.{processor_at, starts_at, last_tag}
use Rattle.pg_codec.specs.declared.naming.Naming.TheVariants.{Bare}
use Rattle.pg_codec.specs.Bare.{fields_in}
use Rattle.pg_codec.specs.Parts.{settings_behind, head_of}
use Rattle.pg_span_run.specs.Orders.{Spanned}
use Rattle.pg_span_run.specs.declared.refusal.SpannedRefusal.{SpannedRefusal}
use Rattle.pg_span_run.specs.declared.refusal.SpannedRefusal.TheVariants.{Plain, Back}
use Rattle.pg_span_run.specs.Spelling.{Timed}

-- what reading a part gives: its value and the bytes after it
abbrev pub SpannedPart : Type 0 → Type 0
SpannedPart A = Result (A × List ℕ) SpannedRefusal

-- a part that is refused as in versions 1 and 2
abbrev pub plain : {A : Type 0} → Part A → SpannedPart A
plain (Ok x) = Ok x
plain (Err e) = Err (Plain e)

abbrev pub spans_version_of : ℕ → Version
spans_version_of n = if n == 3 then versions.One else versions.Two

unfoldable pub spans_version_at : List ℕ → Part Version
spans_version_at bytes = do
  number ← passing (λ n. n == 3 || n == 4) refusals.Version (number_at w16 bytes)
  Ok (spans_version_of number.0, number.1)

-- the magic and the version
unfoldable pub spans_front_at : List ℕ → Part Version
spans_front_at bytes = magic_at bytes >>= λ magic. spans_version_at magic.1

-- a header after its version
unfoldable pub header_behind : Version → List ℕ → Part Head
header_behind version bytes = do
  settings ← settings_behind version bytes
  starts ← starts_at settings.0.cfg.m settings.0.count settings.1
  Ok (head_of settings.0 starts.0, starts.1)

unfoldable pub spans_header_at : List ℕ → Part Head
spans_header_at bytes = do
  version ← spans_front_at bytes
  header_behind version.0 version.1

-- an event with its span
unfoldable pub timed_at : Version → List ℕ → Part Timed
timed_at version bytes = do
  tag ← passing (is_between 0x10 (last_tag version)) refusals.Tag (byte_at bytes)
  p ← processor_at version tag.1
  back ← number_at w32 p.1
  e ← fields_in Bare tag.0 p.0 back.1
  Ok ((e.0, back.0), e.1)

-- a run and the event that ended next
abbrev pub with_event : Spanned → Timed → Spanned
with_event s x = record {
  head = s.head;
  events = s.events ++ x.0 ∷ [];
  backs = s.backs ++ x.1 ∷ [];
}

-- an event has to keep rules 1 to 6, and then rule 7: it began after no more events had ended than
-- there are before it
abbrev pub judged : Spanned → Timed → Option Malformed → Result Spanned SpannedRefusal
judged s x (Some rule) = Err (Plain (refusals.Malformed (length s.events) rule))
judged s x None =
    if nat_le x.1 (length s.events) then Ok (with_event s x) else Err (Back (length s.events))

-- the event after those of a run
unfoldable pub next_event_at : Spanned → List ℕ → SpannedPart Spanned
next_event_at s bytes = do
  x ← plain (timed_at s.head.version bytes)
  more ← judged s x.0 (broken_rule s.head x.0.0)
  Ok (more, x.1)

-- so many events
unfoldable pub next_events_at : ℕ → Spanned → List ℕ → SpannedPart Spanned
next_events_at zero s bytes = Ok (s, bytes)
next_events_at (suc n) s bytes = do
  more ← next_event_at s bytes
  next_events_at n more.0 more.1

-- a segment after its tag, with the number that it must have
unfoldable pub next_segment_at : Spanned → ℕ → List ℕ → SpannedPart Spanned
next_segment_at s number bytes = do
  found ← plain (passing (λ n. n == number) refusals.SegmentNumber (number_at w32 bytes))
  count ←
      plain
      (passing (λ n. is_between 1 s.head.segment n && nat_lt (length s.events + n) (2 ^ 32))
      refusals.SegmentCount (number_at w32 found.1))
  next_events_at count.0 s count.1

-- the end mark after its tag
unfoldable pub total_at : Spanned → List ℕ → SpannedPart Spanned
total_at s bytes = do
  found ← plain (passing (λ n. n == length s.events) refusals.Total (number_at w32 bytes))
  Ok (s, found.1)

-- whether a segment was full, that made one run of another
abbrev pub was_full : Spanned → Spanned → Bool
was_full old new = length new.events == length old.events + old.head.segment

-- the tag of a segment or of the end mark
abbrev pub tag_at : List ℕ → Part ℕ
tag_at bytes = passing (λ t. t == 1 || t == 2) refusals.Tag (byte_at bytes)

-- the segments up to the end mark. The first number bounds how many there are. A segment may come
-- first, and after a full one
unfoldable pub next_segments_at : ℕ → Spanned → ℕ → Bool → List ℕ → SpannedPart Spanned
next_segments_at zero s number full bytes = Err (Plain refusals.Truncated)
next_segments_at (suc n) s number full bytes = do
  tag ← plain (tag_at bytes)
  if tag.0 == 2 then total_at s tag.1 else
      if full then
      (next_segment_at s number tag.1
      >>= λ more. next_segments_at n more.0 (number + 1) (was_full s more.0) more.1)
      else Err (Plain refusals.SegmentCount)

-- a run with no event yet
abbrev pub no_events : Head → Spanned
no_events head = record { head = head; events = []; backs = [] }

-- all of the bytes
unfoldable pub spanned_reading : List ℕ → Result Spanned SpannedRefusal
spanned_reading bytes = do
  head ← plain (spans_header_at bytes)
  whole ← next_segments_at (length head.1) (no_events head.0) 0 true head.1
  if length whole.1 == 0 then Ok whole.0 else Err (Plain refusals.Trailing)
