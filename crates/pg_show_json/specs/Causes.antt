-- The cause of a rejection as JSON. That of a record whose moments are judged has the fields
--
--     event                the event
--     walk                 the entries that its moments name, down to the first that is no table
--     finding              what was found for the reason
--     final                whether no moments prove it
--     other_moments        else the freshest that do
--     last                 and, where none do, when it would last have been witnessed
--
-- and that of an event that no moments witness
--
--     event                the event, without its moments
--     now                  the entries that its processor would read at the event
--     given                what it would get by these, by the rights; null if nothing
--     lacking              the flag that it lacks there, where that is what it got; null if none
--     last                 when it would last have been witnessed
use Rattle.std.specs.Prelude.{ℕ, true, false, List, [], Option, Some, None, codes, slice_get}
use Rattle.pg_event.specs.declared.event.Event.{Event}
use Rattle.pg_event.specs.declared.event.Outcome.{Outcome}
use Rattle.pg_search.specs.declared.last.Last.{Last}
use Rattle.pg_explain.specs.declared.denial.Denial.{Denial}
use Rattle.pg_explain.specs.declared.explainer.Explanation.{Explanation}
use Rattle.pg_explain.specs.declared.finding.Finding.{Finding}
use Rattle.pg_explain.specs.declared.last_lines.Takers.{Takers}
use Rattle.pg_explain.specs.Lasts.{taken_in}
use Rattle.pg_show_json.specs.Tree.{Json, nothing, flag, counts, object, Fields, no_fields, field}
use Rattle.pg_show_json.specs.Events.{claim_json, outcome_json}
use Rattle.pg_show_json.specs.Entries.{walk_json}
use Rattle.pg_show_json.specs.Findings.{finding_json}
use Rattle.pg_show_json.specs.Lasts.{event_at, last_json, dropped_json}

abbrev pub ended_fields : List Event → Option (List ℕ) → Option Last → Fields
ended_fields events None last =
    field (codes "final") (flag true)
    (field (codes "last") (last_json (taken_in events last) last) no_fields)
ended_fields events (Some ws) last =
    field (codes "final") (flag false) (field (codes "other_moments") (counts ws) no_fields)

abbrev pub explanation_json : List Event → Explanation → Json
explanation_json events x = object (
    field (codes "event") (event_at x.number (slice_get events x.number))
    (field (codes "walk") (walk_json x.walk.items)
    (field (codes "finding") (finding_json events x.finding)
    (ended_fields events x.other x.last))))

abbrev pub given_json : Option Outcome → Json
given_json None = nothing
given_json (Some outcome) = outcome_json outcome

abbrev pub lacking_json : Option Finding → Json
lacking_json None = nothing
lacking_json (Some found) = finding_json [] found

-- of this event, where these took its last moments away
abbrev pub denial_json : Event → Takers → Denial → Json
denial_json e by x = object (
    field (codes "event") (claim_json x.number e)
    (field (codes "now") (walk_json x.walk.items)
    (field (codes "given") (given_json x.given)
    (field (codes "lacking") (lacking_json x.lacking)
    (field (codes "last") (last_json by.taken x.last)
    (field (codes "dropped_by") (dropped_json x.dropped by.dropped) no_fields))))))
