-- The numbers and names of refusals, and what a text is refused for.
use Rattle.std.specs.Prelude.{◌≡◌, ℕ, ◌<◌, Bool, true, false, ◌||◌, ◌⊎◌, MatchBool, List, codes}
use Rattle.std.specs.Prelude.{Err, IfErr, is_ok}
use Rattle.pg_guest.specs.declared.script_refusal.ScriptRefusal.{ScriptRefusal}
use Rattle.pg_guest.specs.declared.script_refusal.ScriptRefusal.TheVariants as refusals
use Rattle.pg_guest.specs.declared.script_refusal.ScriptError.{ScriptError}
use Rattle.pg_guest.specs.Lines.{Lines, Ended, Cut, Line, lines_of, words_of}
use Rattle.pg_guest.specs.Words.{Words}
use Rattle.pg_guest.specs.Heading.{names_processor}
use Rattle.pg_guest.specs.Instructions.{processor_at}
use Rattle.pg_guest.specs.Reading.{reading}

abbrev pub number_of : ScriptRefusal → ℕ
number_of refusals.FirstLine = 1
number_of refusals.Machine = 2
number_of refusals.Segment = 3
number_of refusals.Cpu = 4
number_of refusals.Instruction = 5
number_of refusals.Number = 6
number_of refusals.Malformed = 7
number_of refusals.LineEnd = 8
number_of refusals.TooMany = 9
number_of refusals.Memory = 10

abbrev pub name_of : ScriptRefusal → List ℕ
name_of refusals.FirstLine = codes "first line"
name_of refusals.Machine = codes "machine"
name_of refusals.Segment = codes "segment"
name_of refusals.Cpu = codes "cpu"
name_of refusals.Instruction = codes "instruction"
name_of refusals.Number = codes "number"
name_of refusals.Malformed = codes "malformed"
name_of refusals.LineEnd = codes "line end"
name_of refusals.TooMany = codes "too many instructions"
name_of refusals.Memory = codes "memory"

-- whether memory ran out
abbrev pub is_memory : ScriptRefusal → Bool
is_memory refusals.FirstLine = false
is_memory refusals.Machine = false
is_memory refusals.Segment = false
is_memory refusals.Cpu = false
is_memory refusals.Instruction = false
is_memory refusals.Number = false
is_memory refusals.Malformed = false
is_memory refusals.LineEnd = false
is_memory refusals.TooMany = false
is_memory refusals.Memory = true

-- a line that makes a script longer: it begins with `cpu` or with the number of a processor
abbrev pub adds : Words → Bool
adds words = names_processor words || is_ok (processor_at words)

-- the line of this number makes a script longer
abbrev pub Adds : Lines → ℕ → Type 0
Adds (Ended m) n = ⊥
Adds (Cut m) n = ⊥
Adds (Line m line more) n = ((m ≡ n) × (adds (words_of line) ≡ true)) ⊎ Adds more n

-- What a text is refused for: its first refusal; or memory was refused, at a line that makes the
-- script longer, and no line as far as that one is refused.
abbrev pub IsRefused : List ℕ → ScriptError → Type 0
IsRefused bytes e =
    MatchBool (is_memory e.refusal)
    (Adds (lines_of 1 bytes) e.line × IfErr (reading bytes) (λ first. e.line < first.line))
    (reading bytes ≡ Err e)
