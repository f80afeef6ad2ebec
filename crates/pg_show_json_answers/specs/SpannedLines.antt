-- The events of a record with no one order, an object a line: as in a record with one order, but
-- without moments, and with the field
--
--     began                how many events had ended when it began
use Rattle.std.specs.Prelude.{ℕ, ◌+◌, Bool, if◌then◌else◌, List, [], ◌∷◌, ◌++◌}
use Rattle.pg_event.specs.declared.event.Event.{Event}
use Rattle.pg_event.specs.declared.selection.Selection.{Selection}
use Rattle.pg_explain.specs.Filters.{is_shown}
use Rattle.pg_span_run.specs.Orders.{Spanned, ended_before}
use Rattle.pg_show_json.specs.Tree.{Json, Fields, object, json_line}
use Rattle.pg_show_json.specs.Events.{began_fields}

-- an event with its span
abbrev pub event_fields : Spanned → ℕ → Event → Fields
event_fields s number e = began_fields (ended_before s number) number e

abbrev pub event_json : Spanned → ℕ → Event → Json
event_json s number e = object (event_fields s number e)

-- the line of an event, if it is shown
abbrev pub spanned_line : Bool → Spanned → ℕ → Event → List ℕ
spanned_line is_shown s number e =
    if is_shown then json_line (event_json s number e) else []

-- the lines of those events that are shown, where the first has this number
abbrev pub lines_from : Selection → Spanned → ℕ → List Event → List ℕ
lines_from f s number [] = []
lines_from f s number (e ∷ events) =
    spanned_line (is_shown f s.events number e) s number e ++ lines_from f s (number + 1) events

-- the lines of a run's events that are shown
abbrev pub spanned_json_lines : Selection → Spanned → List ℕ
spanned_json_lines f s = lines_from f s 0 s.events
