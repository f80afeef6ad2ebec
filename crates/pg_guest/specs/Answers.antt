-- What the functions of this crate answer, seen as the definitions of reading.
use Rattle.std.specs.Prelude.{◌≡◌, ℕ, List, [], ◌⊎◌}
use Rattle.std.specs.Prelude.{Option, Some, None, Result, Ok, Err}
use Rattle.std.specs.Prelude.{length, MatchResult, ◌<◌}
use Rattle.pg_guest.specs.declared.script_refusal.ScriptRefusal.TheVariants as refusals
use Rattle.pg_guest.specs.declared.script_refusal.ScriptError.{ScriptError}
use Rattle.pg_guest.specs.declared.script_text.Told.{Told}
use Rattle.pg_guest.specs.declared.script_text.Front.{Front}
use Rattle.pg_guest.specs.declared.script_text.Front.TheVariants as fronts
use Rattle.pg_guest.specs.Lines.{Lines, Ended, Cut, Line, pieces, lines_of, words_of}
use Rattle.pg_guest.specs.Lines.{told}
use Rattle.pg_guest.specs.Words.{Words}
use Rattle.pg_guest.specs.Reading.{Said, said}
use Rattle.pg_guest.specs.Refusals.{Adds}

-- what was answered, seen by view, is what the definition gives
abbrev pub Agrees : {X A E : Type 0} → (X → A) → Result X E → Result A E → Type 0
Agrees view (Ok x) read = read ≡ Ok (view x)
Agrees view (Err e) read = read ≡ Err e

abbrev pub first_number : Lines → ℕ
first_number (Ended n) = n
first_number (Cut n) = n
first_number (Line n line more) = n

-- each line has a greater number than the one before
abbrev pub AreRising : Lines → Type 0
AreRising (Ended n) = Unit {0}
AreRising (Cut n) = Unit {0}
AreRising (Line n line more) = (n < first_number more) × AreRising more

-- lines after the one of this number
abbrev pub AreBehind : ℕ → Lines → Type 0
AreBehind n lines = (n < first_number lines) × AreRising lines

-- memory was refused at a line, and no line as far as that one is
abbrev pub Lacks : {A : Type 0} → (A → Type 0) → Lines → Result A ScriptError → ScriptError → Type 0
Lacks behind lines read e =
    (e.refusal ≡ refusals.Memory) × Adds lines e.line
    × MatchResult read behind (λ first. e.line < first.line)

-- what was answered for a part of the lines is what reading gives, unless memory was refused there
abbrev pub AgreesOnPart : {X A : Type 0} → (X → A × Lines) → Result X ScriptError → Lines →
    Result (A × Lines) ScriptError → Type 0
AgreesOnPart view (Ok x) lines read = read ≡ Ok (view x)
AgreesOnPart view (Err e) lines read =
    (read ≡ Err e) ⊎ Lacks (λ x. AreBehind e.line x.1) lines read e

-- what was answered for all lines is what reading gives, unless memory was refused there
abbrev pub AgreesOnAll : {X A : Type 0} → (X → A) → Result X ScriptError → Lines →
    Result A ScriptError → Type 0
AgreesOnAll view (Ok x) lines read = read ≡ Ok (view x)
AgreesOnAll view (Err e) lines read = (read ≡ Err e) ⊎ Lacks (λ x. Unit {0}) lines read e

-- the pieces after the first separator, if there is one
abbrev pub pieces_behind : ℕ → Option (List ℕ) → List (List ℕ)
pieces_behind separator None = []
pieces_behind separator (Some bytes) = pieces separator bytes

-- the words that are left of a line
abbrev pub words_left : Option (List ℕ) → Words
words_left None = []
words_left (Some line) = words_of line

-- what is left of a text: the number of the next line, and the bytes from there on
abbrev pub Rest : Type 0
Rest = ℕ × List ℕ

abbrev pub lines_in : Rest → Lines
lines_in rest = lines_of rest.0 rest.1

-- the lines that say something
abbrev pub told_in : Rest → Lines
told_in rest = told (lines_in rest)

-- what a line says, as it is answered
abbrev pub said_in : {X : Type 0} → (Rest → Lines) → Told X → Said X
said_in lines told = said told.number (lines told.rest) told.value

-- the front of a text as it is answered
abbrev pub front_in : (Rest → Lines) → Front → Lines
front_in lines (fronts.Ended n) = Ended n
front_in lines (fronts.Line told) = Line told.number told.value.now (lines told.rest)

-- after the front fewer bytes are left than these
abbrev pub ShortensTo : ℕ → Front → Type 0
ShortensTo left (fronts.Ended n) = Unit {0}
ShortensTo left (fronts.Line told) = length told.rest.1 < left
