-- Which events write a word.
use Rattle.std.specs.Prelude.{◌≡◌, ℕ, ◌+◌, ◌-◌, ◌<◌, Bool, true, false, ◌==◌, nat_lt}
use Rattle.std.specs.Prelude.{if◌then◌else◌, List, [], ◌∷◌}
use Rattle.std.specs.Prelude.{Option, Some, None, slice_get, MatchOption}
use Rattle.std.specs.List.{Contains}
use Rattle.pg_event.specs.declared.event.Event.{Event}
use Rattle.pg_event.specs.declared.event.Event.TheVariants.{Write, Access, Assist, MovCr3, Invlpg}
use Rattle.pg_event.specs.declared.event.Event.TheVariants.{Invpcid, MovCr4Pge}
use Rattle.pg_event.specs.Witness.{any_from}
use Rattle.pg_search.specs.declared.written.Written.{Written}

-- whether an event writes the word at an address
abbrev pub writes : ℕ → Event → Bool
writes a (Write p addr value) = addr == a
writes a (Access p flags la outcome moments) = false
writes a (Assist p flags la word moments) = word == a
writes a (MovCr3 p operand) = false
writes a (Invlpg p la) = false
writes a (Invpcid p kind pcid la) = false
writes a (MovCr4Pge p on) = false

abbrev pub writes_some : ℕ → Option Event → Bool
writes_some a None = false
writes_some a (Some e) = writes a e

-- whether an event from one number up to, not with, another writes the word at an address
abbrev pub is_written : List Event → ℕ → ℕ → ℕ → Bool
is_written events a from to =
    any_from (λ j. writes_some a (slice_get events j)) from (to - from)

-- the last event below a moment that writes the word at an address, if there is one
abbrev pub IsWriter : List Event → ℕ → ℕ → Option ℕ → Type 0
IsWriter events a w found =
    MatchOption found (is_written events a 0 w ≡ false)
    (λ j. (j < w) × (writes_some a (slice_get events j) ≡ true)
    × (is_written events a (j + 1) w ≡ false))

-- ---- all that write some word

-- the address of the word that an event writes
abbrev pub word_of : Event → Option ℕ
word_of (Write p addr value) = Some addr
word_of (Access p flags la outcome moments) = None
word_of (Assist p flags la word moments) = Some word
word_of (MovCr3 p operand) = None
word_of (Invlpg p la) = None
word_of (Invpcid p kind pcid la) = None
word_of (MovCr4Pge p on) = None

abbrev pub written_from : ℕ → ℕ → Written
written_from since word = record { since = since; word = word }

-- of each event below a moment that writes a word the list has the moment behind it, and the word
abbrev pub HaveWritten : List Event → ℕ → List Written → Type 0
HaveWritten events moment xs = (i word : ℕ) (e : Event) → i < moment →
    slice_get events i ≡ Some e → word_of e ≡ Some word → Contains xs (written_from (i + 1) word)

-- what is listed of an event with a number, which writes this word, if one: nothing of one that is
-- not below the moment
abbrev pub listed_of : ℕ → ℕ → Option ℕ → List Written
listed_of moment number None = []
listed_of moment number (Some word) =
    if nat_lt number moment then written_from (number + 1) word ∷ [] else []
