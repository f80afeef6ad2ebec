-- A record with spans as a trace: an event lasts from its beginning, or from the end of its
-- processor's event before it where that is later, to its own end.
use Rattle.std.specs.Prelude.{ℕ, ◌+◌, ◌-◌, ◌==◌, take, drop, if◌then◌else◌, nat_lt}
use Rattle.std.specs.Prelude.{List, [], ◌∷◌, ◌++◌, length, Option, Some, None, slice_get}
use Rattle.pg_event.specs.declared.event.Event.{Event}
use Rattle.pg_event.specs.declared.selection.Selection.{Selection}
use Rattle.pg_event.specs.Form.{processor_of}
use Rattle.pg_show_json.specs.Events.{began_fields}
use Rattle.pg_span_run.specs.Orders.{Spanned, ended_before}
use Rattle.pg_span_text.specs.declared.seen.Seen.{Seen}
use Rattle.pg_span_text.specs.Cause.{cause_text}
use Rattle.pg_span_text.specs.Parts.{parts_of, walked_address}
use Rattle.pg_span_run.specs.Spans.{span_of}
use Rattle.pg_show_trace.specs.declared.mark.Cause.TheVariants.{NoOrder}
use Rattle.pg_show_trace.specs.declared.mark.Role.TheVariants as roles
use Rattle.pg_show_trace.specs.declared.mark.Source.{Source}
use Rattle.pg_show_trace.specs.Marks.{Marking, source_at}
use Rattle.pg_show_trace.specs.Objects.{opening_text, slice_text, others_of, ending_text}
use Rattle.pg_show_trace.specs.Texts.{is_chosen}

-- behind an event with this number, if it is of a processor, and else where it was
abbrev pub start_after : ℕ → ℕ → ℕ → Event → ℕ
start_after p number start e = if processor_of e == p then number + 1 else start

-- behind the last of these events that is of it, where the first has this number
abbrev pub start_behind : ℕ → ℕ → ℕ → List Event → ℕ
start_behind p number start [] = start
start_behind p number start (e ∷ events) =
    start_behind p (number + 1) (start_after p number start e) events

-- the events with numbers from one up to, not with, another
abbrev pub between : ℕ → ℕ → List Event → List Event
between from to events = take (to - from) (drop from events)

-- where an event that began so starts on its processor's track
abbrev pub start_of : List Event → ℕ → ℕ → ℕ → ℕ
start_of events p began number = start_behind p began began (between began number events)

abbrev pub item_at : Option Marking → ℕ → ℕ → ℕ → Event → List ℕ
item_at mark began start number e =
    slice_text start (number - start + 1) number e
    (others_of mark number (began_fields began number e))

abbrev pub spanned_item : Option Marking → Spanned → ℕ → Event → List ℕ
spanned_item mark s number e =
    item_at mark (ended_before s number)
    (start_of s.events (processor_of e) (ended_before s number) number) number e

abbrev pub chosen_item : Option Selection → Option Marking → Spanned → ℕ → Event → List ℕ
chosen_item f mark s number e =
    if is_chosen f number e then spanned_item mark s number e else []

abbrev pub spanned_items : Option Selection → Option Marking → Spanned → ℕ → List Event → List ℕ
spanned_items f mark s number [] = []
spanned_items f mark s number (e ∷ events) =
    chosen_item f mark s number e ++ spanned_items f mark s (number + 1) events

abbrev pub document_text : Option Selection → Option Marking → Spanned → List ℕ
document_text f mark s =
    opening_text (length s.head.processors)
    ++ (spanned_items f mark s 0 s.events ++ ending_text mark)

-- ---- the mark of an event that comes to pass in no order: arrows lead to it from the events with
-- lower numbers that wrote what its walk may read

abbrev pub writer_before : ℕ → Option ℕ → Option ℕ
writer_before number None = None
writer_before number (Some writer) = if nat_lt writer number then Some writer else None

abbrev pub writers_of : Spanned → ℕ → List Seen → List Source
writers_of s number [] = []
writers_of s number (x ∷ xs) =
    source_at s.events roles.Write (writer_before number x.writer) ++ writers_of s number xs

abbrev pub walk_sources : Spanned → ℕ → Event → Option ℕ → List Source
walk_sources s number e None = []
walk_sources s number e (Some la) =
    writers_of s number (parts_of s (span_of s number e) la).may_read

abbrev pub spanned_mark : Spanned → ℕ → Event → Marking
spanned_mark s number e = record {
  number = number;
  p = processor_of e;
  cause = NoOrder;
  words = cause_text s number;
  sources = walk_sources s number e (walked_address e);
}

abbrev pub mark_at : Spanned → ℕ → Option Event → Option Marking
mark_at s number None = None
mark_at s number (Some e) = Some (spanned_mark s number e)

abbrev pub never_mark : Spanned → Option ℕ → Option Marking
never_mark s None = None
never_mark s (Some number) = mark_at s number (slice_get s.events number)
