-- Laws of writers, by what memory holds, and of findings, by the reasons that fail.
use Rattle.std.specs.Prelude.{◌≡◌, ℕ, ◌+◌, false, List, Some, None, option_map}
use Rattle.pg_event.specs.declared.event.Event.{Event}
use Rattle.pg_event.specs.Heads.{Head}
use Rattle.pg_event.specs.Values.{written, mem_at}
use Rattle.pg_event.specs.Witness.{failing}
use Rattle.pg_explain.specs.Findings.{reason_of, finding}
use Rattle.pg_search.specs.Writers.{writes, IsWriter}

-- an event that does not write the word at an address leaves it
abbrev pub OthersLeaveTheWord : Type 0
OthersLeaveTheWord = (a value : ℕ) (e : Event) → writes a e ≡ false → written a value e ≡ value

-- a word that no event below a moment writes is what it is at moment 0
abbrev pub UnwrittenWordsStay : Type 0
UnwrittenWordsStay = (events : List Event) (a w : ℕ) →
    IsWriter events a w None → mem_at events w a ≡ mem_at events 0 a

-- a word is what it is just after the last event that writes it
abbrev pub WritersLeaveTheWord : Type 0
WritersLeaveTheWord = (events : List Event) (a w j : ℕ) →
    IsWriter events a w (Some j) → mem_at events w a ≡ mem_at events (j + 1) a

-- the finding of an event is of the least reason that fails for it
abbrev pub FindingsStandBehindReasons : Type 0
FindingsStandBehindReasons = (head : Head) (events : List Event) (i : ℕ) →
    option_map reason_of (finding head events i) ≡ failing head events i
