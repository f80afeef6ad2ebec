-- When an event would last have been witnessed, had it come earlier, a line:
--
--     last: moment M by W ..; taken by LINE   the number, the freshest moments that would have, and
--                                             the event there, after which it never was
--     last: moment M by W .. under pcid HEX; ..
--                                             where moments under its own PCID would have at none
--     last: never                             where there is none
use Rattle.std.specs.Prelude.{ℕ, List, [], ◌++◌, Option, Some, None, codes, decimal, slice_get}
use Rattle.pg_event.specs.declared.event.Event.{Event}
use Rattle.pg_search.specs.declared.last.Last.{Last}
use Rattle.pg_explain.specs.Line.{line_at, numbers_text, hex}

abbrev pub by_text : List ℕ → List ℕ
by_text ws = codes " by" ++ numbers_text ws

-- another PCID than the event's
abbrev pub under_text : Option ℕ → List ℕ
under_text None = []
under_text (Some pcid) = codes " under pcid " ++ hex pcid

abbrev pub last_moments_text : Last → List ℕ
last_moments_text last =
    codes "last: moment "
    ++ (decimal last.number ++ (by_text last.moments ++ under_text last.other))

-- where the event there is this
abbrev pub last_seen_by : Option Event → Last → List ℕ
last_seen_by taken last =
    last_moments_text last
    ++ (codes "; taken by " ++ (line_at last.number taken ++ codes "\n"))

-- the number of the event after which it never was, where it ever was and no other moments do
abbrev pub taker : Option (List ℕ) → Option Last → Option ℕ
taker None None = None
taker None (Some last) = Some last.number
taker (Some ws) last = None

-- the event after which it never was, where there is one
abbrev pub taken_in : List Event → Option Last → Option Event
taken_in events None = None
taken_in events (Some last) = slice_get events last.number

-- the event with a number, where there is one
abbrev pub dropped_in : List Event → Option ℕ → Option Event
dropped_in events None = None
dropped_in events (Some number) = slice_get events number

abbrev pub taken_text : List Event → Option Last → List ℕ
taken_text events None = codes "last: never\n"
taken_text events (Some last) = last_seen_by (slice_get events last.number) last
