-- A text as lines, and a line as words.
use Rattle.std.specs.Prelude.{ℕ, ◌+◌, Bool, true, ◌&&◌, ◌==◌, nat_le, if◌then◌else◌}
use Rattle.std.specs.Prelude.{List, [], ◌∷◌, length}
use Rattle.std.specs.List.{slice_split, list_all}

-- The lines of a text, from one on, each with its number; the first line of a text has number 1.
-- Where a text ends after an LF, it has ended before the line of the next number; else it is cut
-- within a line.
pub data Lines : Type 0 where
  Ended : ℕ → Lines
  Cut : ℕ → Lines
  Line : ℕ → List ℕ → Lines → Lines

-- a text is cut at each LF; what follows the last is a line that no LF ends, or nothing
abbrev pub lines_from : ℕ → List (List ℕ) → Lines
lines_from n [] = Ended n
lines_from n (last ∷ []) = if length last == 0 then Ended n else Cut n
lines_from n (line ∷ next ∷ more) = Line n line (lines_from (n + 1) (next ∷ more))

abbrev pub pieces : ℕ → List ℕ → List (List ℕ)
pieces separator bytes = slice_split (λ b. b == separator) bytes

abbrev pub lines_of : ℕ → List ℕ → Lines
lines_of n bytes = lines_from n (pieces 10 bytes)

-- a line is cut at each single space
abbrev pub words_of : List ℕ → List (List ℕ)
words_of line = pieces 32 line

-- the bytes of a line are from 0x20 to 0x7E
abbrev pub is_plain : List ℕ → Bool
is_plain line = list_all (λ b. nat_le 0x20 b && nat_le b 0x7E) line

-- a line that says nothing: it is empty, or begins with `#`
abbrev pub is_skipped : List ℕ → Bool
is_skipped [] = true
is_skipped (b ∷ line) = b == 0x23

-- the lines without those that say nothing. One with a byte that no line may have stays
abbrev pub told : Lines → Lines
told (Ended n) = Ended n
told (Cut n) = Cut n
told (Line n line more) =
    if is_plain line && is_skipped line then told more else Line n line (told more)
