-- The events that a cause names.
use Rattle.std.specs.Prelude.{ℕ, not, ◌&&◌, ◌==◌, nat_lt, if◌then◌else◌, fold}
use Rattle.std.specs.Prelude.{List, [], ◌∷◌, ◌++◌, Option, Some, None, length, slice_get}
use Rattle.std.specs.List.{list_any}
use Rattle.pg_event.specs.declared.event.Event.{Event}
use Rattle.pg_span_run.specs.Orders.{Spanned}
use Rattle.pg_span_text.specs.declared.parts.ReadAfter.{ReadAfter}
use Rattle.pg_span_text.specs.declared.seen.Gone.{Gone}
use Rattle.pg_span_text.specs.declared.seen.Seen.{Seen}
use Rattle.pg_span_run.specs.declared.span.Span.{Span}
use Rattle.pg_span_text.specs.Parts.{walked_address, Parts, parts_of}
use Rattle.pg_span_run.specs.Spans.{span_of}

-- a number after others, unless it is there, or they are 40 already
abbrev pub put_name : List ℕ → ℕ → List ℕ
put_name names number =
    if nat_lt (length names) 40 && not (list_any (λ n. n == number) names)
    then names ++ number ∷ [] else names

abbrev pub put_some : List ℕ → Option ℕ → List ℕ
put_some names None = names
put_some names (Some number) = put_name names number

abbrev pub put_after : List ℕ → Option ReadAfter → List ℕ
put_after names None = names
put_after names (Some after) = put_name names after.number

abbrev pub put_gone : List ℕ → Option Gone → List ℕ
put_gone names None = names
put_gone names (Some gone) = put_name names gone.by

-- the event that wrote a value, and the one that overwrites it
abbrev pub put_names : List ℕ → Seen → List ℕ
put_names names x = put_gone (put_some names x.writer) x.gone

abbrev pub put_all : List ℕ → List Seen → List ℕ
put_all names xs = fold put_names names xs

-- the asked event, the one after which it reads, and those of entries, first of those that may be
-- read
abbrev pub named_by : ℕ → Option ReadAfter → List Seen → List Seen → List ℕ
named_by number after may cannot =
    put_all (put_all (put_after (put_name [] number) after) may) cannot

abbrev pub named_parts : ℕ → Parts → List ℕ
named_parts number parts = named_by number parts.after parts.may_read parts.cannot_read

abbrev pub named_walk : Spanned → Span → Option ℕ → List ℕ
named_walk s event None = named_by event.number None [] []
named_walk s event (Some la) = named_parts event.number (parts_of s event la)

abbrev pub named_of : Spanned → ℕ → Option Event → List ℕ
named_of s number None = []
named_of s number (Some e) = named_walk s (span_of s number e) (walked_address e)

-- the events that the cause of the event with this number names, 40 of them at most
abbrev pub named : Spanned → ℕ → List ℕ
named s number = named_of s number (slice_get s.events number)
