-- Laws of runs with spans and their spellings.
use Rattle.std.specs.Prelude.{◌≡◌, List, ℕ, Ok, ◌↔◌}
use Rattle.pg_event.specs.Laws.{AreBytes}
use Rattle.pg_span_run.specs.Orders.{Spanned}
use Rattle.pg_span_run.specs.Spelling.{SpellsSpanned}
use Rattle.pg_span_run.specs.Reading.{spanned_reading}

abbrev pub NoBytesSpellTwoRuns : Type 0
NoBytesSpellTwoRuns =
    (bytes : List ℕ) (r s : Spanned) → SpellsSpanned bytes r → SpellsSpanned bytes s → r ≡ s

-- what is spelled is read
abbrev pub ReadingOfSpannedSpelling : Type 0
ReadingOfSpannedSpelling =
    (bytes : List ℕ) (s : Spanned) → SpellsSpanned bytes s → spanned_reading bytes ≡ Ok s

-- bytes are a run's spelling exactly where reading gives the run
abbrev pub SpelledWhereRead : Type 0
SpelledWhereRead = (bytes : List ℕ) (s : Spanned) → AreBytes bytes →
    SpellsSpanned bytes s ↔ (spanned_reading bytes ≡ Ok s)
