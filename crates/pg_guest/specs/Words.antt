-- What the words of a line say, from left to right: a value and the words after it, or the refusal
-- of the first word that is wrong or missing.
use Rattle.std.specs.Prelude.{ℕ, Bool, true, false, if◌then◌else◌, List, [], ◌∷◌}
use Rattle.std.specs.Prelude.{codes, Option, Some, None, Result, Ok, Err}
use Rattle.std.specs.Str.{bytes_eq}
use Rattle.pg_event.specs.Reading.{◌>>=◌}
use Rattle.pg_guest.specs.declared.script_refusal.ScriptRefusal.{ScriptRefusal}
use Rattle.pg_guest.specs.declared.script_refusal.ScriptRefusal.TheVariants as refusals
use Rattle.pg_guest.specs.Numbers.{dec_of, hex_of}

abbrev pub Words : Type 0
Words = List (List ℕ)

abbrev pub FromWords : Type 0 → Type 0
FromWords A = Result (A × Words) ScriptRefusal

abbrev pub word_at : Words → FromWords (List ℕ)
word_at [] = Err refusals.Instruction
word_at (word ∷ words) = Ok (word, words)

abbrev pub number_or_refusal : Option ℕ → Words → FromWords ℕ
number_or_refusal None words = Err refusals.Number
number_or_refusal (Some n) words = Ok (n, words)

unfoldable pub dec_at : Words → FromWords ℕ
dec_at words = do
  word ← word_at words
  number_or_refusal (dec_of word.0) word.1

unfoldable pub hex_at : Words → FromWords ℕ
hex_at words = do
  word ← word_at words
  number_or_refusal (hex_of word.0) word.1

abbrev pub bit_or_refusal : List ℕ → Words → FromWords Bool
bit_or_refusal word words =
    if bytes_eq word (codes "0") then Ok (false, words) else
    if bytes_eq word (codes "1") then Ok (true, words) else Err refusals.Instruction

-- the word `0` or `1`
unfoldable pub bit_at : Words → FromWords Bool
bit_at words = do
  word ← word_at words
  bit_or_refusal word.0 word.1

-- this very word
unfoldable pub keyword_at : List ℕ → Words → Result Words ScriptRefusal
keyword_at keyword words = do
  word ← word_at words
  if bytes_eq word.0 keyword then Ok word.1 else Err refusals.Instruction

-- no word more: a value that stands where the words end
abbrev pub ended : {A : Type 0} → A × Words → Result A ScriptRefusal
ended (x, []) = Ok x
ended (x, word ∷ words) = Err refusals.Instruction
