-- Records of versions 3 and 4, whose events have spans, and the one spelling of each.
use Rattle.std.specs.Prelude.{◌≡◌, ℕ, zero, suc, ◌+◌, List, [], ◌∷◌, ◌++◌, length, take, drop}
use Rattle.std.specs.List.{flat_map, zip, AllByRecursion}
use Rattle.std.specs.Int.{w32, to_le_bytes}
use Rattle.pg_event.specs.declared.event.Event.{Event}
use Rattle.pg_event.specs.declared.version.Version.{Version}
use Rattle.pg_event.specs.Heads.{Head, HoldsToAll}
use Rattle.pg_event.specs.Form.{processor_of}
use Rattle.pg_event.specs.Spelling.{version_number, processor_bytes, tag_of, start_bytes}
use Rattle.pg_event.specs.Spelling.{end_bytes, FitsEvent}
use Rattle.pg_codec.specs.Bare.{IsBare, bare_bytes}
use Rattle.pg_codec.specs.Writing.{numbered_bytes}
use Rattle.pg_span_run.specs.Orders.{Spanned}
use Rattle.pg_span_run.specs.Spanned.{IsSpanned}

-- events of version 1 have spans in version 3, and those of version 2 in version 4
abbrev pub spans_number : Version → ℕ
spans_number version = version_number version + 2

-- an event, and how many of those before it had not yet ended when it began
abbrev pub Timed : Type 0
Timed = Event × ℕ

-- tag, processor, span, fields
abbrev pub timed_bytes : Version → Timed → List ℕ
timed_bytes version x =
    tag_of x.0
    ∷ (processor_bytes version (processor_of x.0) ++ to_le_bytes w32 x.1 ++ bare_bytes x.0)

-- a header without its processors, as in version 1 or 2 but for the number of the version
abbrev pub spans_settings_bytes : Head → List ℕ
spans_settings_bytes head = numbered_bytes (spans_number head.version) head

abbrev pub spans_header_bytes : Head → List ℕ
spans_header_bytes head = spans_settings_bytes head ++ flat_map start_bytes head.processors

-- a segment with its number
abbrev pub timed_segment_bytes : Version → ℕ → List Timed → List ℕ
timed_segment_bytes version number events =
    1 ∷ to_le_bytes w32 number ++ to_le_bytes w32 (length events)
    ++ flat_map (timed_bytes version) events

-- segments from a number on, each full but the last; n bounds how many
abbrev pub timed_segments_bytes : Head → ℕ → ℕ → List Timed → List ℕ
timed_segments_bytes head number n [] = []
timed_segments_bytes head number zero events = []
timed_segments_bytes head number (suc n) events =
    timed_segment_bytes head.version number (take head.segment events)
    ++ timed_segments_bytes head (number + 1) n (drop head.segment events)

-- each event with its span
abbrev pub timed : Spanned → List Timed
timed s = zip s.events s.backs

abbrev pub spanned_bytes : Spanned → List ℕ
spanned_bytes s =
    spans_header_bytes s.head ++ timed_segments_bytes s.head 0 (length s.events) (timed s)
    ++ end_bytes (length s.events)

-- a run that has a spelling: fields are within their widths, and events name no moments
pub record IsSpelled (s : Spanned) : Type 0 where
  pub spanned : IsSpanned s
  pub fits : AllByRecursion FitsEvent s.events
  pub bare : AllByRecursion IsBare s.events

-- no byte says which rules hold: what bytes spell is held to all of them
abbrev pub SpellsSpanned : List ℕ → Spanned → Type 0
SpellsSpanned bytes s = IsSpelled s × (bytes ≡ spanned_bytes s) × HoldsToAll s.head
