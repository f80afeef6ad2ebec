-- The stamps of words, kept by the lines that they stand in.
use Rattle.std.specs.Prelude.{◌≡◌, ℕ, zero, suc, ◌+◌, ◌*◌, ◌/◌, ◌%◌, nat_eq, if◌then◌else◌}
use Rattle.std.specs.Prelude.{List, [], ◌∷◌, ◌++◌, map, length, Some, slice_index_or, slice_set}
use Rattle.std.specs.Map.{lookup}
use Rattle.std.specs.Option.{unwrap_or}
use Rattle.pg_timeline.specs.declared.timeline.Stamp.{Stamp}
use Rattle.pg_moment.specs.declared.log.Older.{Older}
use Rattle.pg_moment.specs.declared.word.Others.{Others}
use Rattle.pg_moment.specs.declared.word.Word.{Word}
use Rattle.pg_moment.specs.Stamps.{Lists, cut_word, IsWord, Keeps, stamps_of, unwritten}

-- the words of lines, by the number of the line
abbrev pub Lines : Type 0
Lines = List (ℕ × List Word)

-- the number of the line that a word stands in
abbrev pub line_of : ℕ → ℕ
line_of addr = addr / 64 * 8 + addr % 8

-- the place of a word in its line
abbrev pub place_of : ℕ → ℕ
place_of addr = addr / 8 % 8

-- the address of the word at a place of a line
abbrev pub addr_of : ℕ → ℕ → ℕ
addr_of line place = line / 8 * 64 + place * 8 + line % 8

-- the stamps of the words at the first so many places of a line, by address
abbrev pub words_below : List Older → Lists → ℕ → ℕ → List Word → List (ℕ × List (Stamp ℕ))
words_below log lists line zero words = []
words_below log lists line (suc n) words =
    (addr_of line n, stamps_of log lists (addr_of line n) (slice_index_or words n unwritten))
    ∷ words_below log lists line n words

-- the stamps of the words of all lines, by address
abbrev pub words_of : List Older → Lists → Lines → List (ℕ × List (Stamp ℕ))
words_of log lists [] = []
words_of log lists (e ∷ es) = words_below log lists e.0 8 e.1 ++ words_of log lists es

-- a line whose words were never written
abbrev pub no_words : List Word
no_words = unwritten ∷ unwritten ∷ unwritten ∷ unwritten
    ∷ unwritten ∷ unwritten ∷ unwritten ∷ unwritten ∷ []

-- the line with a number
abbrev pub line_at : Lines → ℕ → List Word
line_at lines k = unwrap_or (lookup (nat_eq k) lines) no_words

-- the word at an address
abbrev pub word_at : Lines → ℕ → Word
word_at lines addr = slice_index_or (line_at lines (line_of addr)) (place_of addr) unwritten

-- every line has eight words, and the others of each are where it says
pub record AreWhole (log : List Older) (lists : Lists) (lines : Lines) : Type 0 where
  pub at : (k : ℕ) → length (line_at lines k) ≡ 8
  pub words : (addr : ℕ) → IsWord log lists addr (word_at lines addr)

-- a line where a word has another value
pub record IsWritten (log : List Older) (lists : Lists) (log' : List Older) (lists' : Lists)
    (addr : ℕ) (stamp : Stamp ℕ) (old new : List Word) : Type 0 where
  pub others : Others
  pub kept : Keeps log lists log' lists' addr
      (slice_index_or old (place_of addr) unwritten) others
  pub line : new ≡ slice_set old (place_of addr)
      (record { value = stamp.value; moment = stamp.moment; others = others })

-- the word at an address has one more stamp
pub record IsAdded (log : List Older) (lists : Lists) (log' : List Older) (lists' : Lists)
    (addr : ℕ) (stamp : Stamp ℕ) (old new : Lines) : Type 0 where
  pub words : List Word
  pub written : IsWritten log lists log' lists' addr stamp (line_at old (line_of addr)) words
  pub at : (k : ℕ) → lookup (nat_eq k) new
      ≡ (if nat_eq (line_of addr) k then Some words else lookup (nat_eq k) old)

-- each word without its values from a moment on
abbrev pub cut_each : List Older → ℕ → Lines → Lines
cut_each log moment lines = map (λ e. (e.0, map (cut_word log moment) e.1)) lines
