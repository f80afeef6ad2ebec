-- When an event would last have been witnessed, as JSON: null, or
--
--     moment, by           its number then, and the moments that would have witnessed it
--     under                their PCID, where moments under the event's own would have at no number,
--                          else null
--     taken_by             the event behind which it never was
use Rattle.std.specs.Prelude.{ℕ, Option, Some, None, codes}
use Rattle.pg_event.specs.declared.event.Event.{Event}
use Rattle.pg_search.specs.declared.last.Last.{Last}
use Rattle.pg_show_json.specs.Tree.{Json, nothing, count, counts, hex, object, no_fields, field}
use Rattle.pg_show_json.specs.Events.{event_json}

-- the event with a number, where there is one
abbrev pub event_at : ℕ → Option Event → Json
event_at number None = nothing
event_at number (Some e) = event_json number e

abbrev pub under_json : Option ℕ → Json
under_json None = nothing
under_json (Some pcid) = hex pcid

-- an event, by its number, where there is one
abbrev pub dropped_json : Option ℕ → Option Event → Json
dropped_json None event = nothing
dropped_json (Some number) event = event_at number event

abbrev pub last_json : Option Event → Option Last → Json
last_json taken None = nothing
last_json taken (Some last) = object (
    field (codes "moment") (count last.number) (field (codes "by") (counts last.moments)
    (field (codes "under") (under_json last.other)
    (field (codes "taken_by") (event_at last.number taken) no_fields))))
