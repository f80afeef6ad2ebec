-- The line of an event with its span.
--
--     NUMBER cpu PROCESSOR CLAIM began COUNT
--
-- CLAIM is what the event did, without moments. COUNT says how many events had ended before it
-- began: in every order the first so many come before it.
use Rattle.std.specs.Prelude.{ℕ, ◌+◌, Bool, if◌then◌else◌, List, [], ◌∷◌, ◌++◌, codes, decimal}
use Rattle.pg_event.specs.declared.event.Event.{Event}
use Rattle.pg_span_run.specs.Orders.{Spanned, ended_before}
use Rattle.pg_event.specs.declared.selection.Selection.{Selection}
use Rattle.pg_explain.specs.Denied.{claim_line}
use Rattle.pg_explain.specs.Filters.{is_shown}

-- the line of an event that began when so many had ended, without its end
abbrev pub began_line : ℕ → ℕ → Event → List ℕ
began_line began number e = claim_line number e ++ (codes " began " ++ decimal began)

abbrev pub spanned_line : Bool → Spanned → ℕ → Event → List ℕ
spanned_line is_shown s number e =
    if is_shown then began_line (ended_before s number) number e ++ codes "\n" else []

-- the lines of those events that are shown, where the first has this number
abbrev pub lines_from : Selection → Spanned → ℕ → List Event → List ℕ
lines_from f s number [] = []
lines_from f s number (e ∷ events) =
    spanned_line (is_shown f s.events number e) s number e ++ lines_from f s (number + 1) events

-- the lines of a run's events that are shown
abbrev pub spanned_lines : Selection → Spanned → List ℕ
spanned_lines f s = lines_from f s 0 s.events
