-- The text of a run: one line a step.
use Rattle.std.specs.Prelude.{◌≡◌, ℕ, ◌+◌, false, List, [], ◌∷◌, ◌++◌, codes, decimal}
use Rattle.std.specs.Fmt.{digits}
use Rattle.pg_event.specs.declared.walk.Parent.{Parent}
use Rattle.pg_explain.specs.Names.{level_number, rights_text}
use Rattle.pg_machine.specs.declared.step.Step.{Step}
use Rattle.pg_machine.specs.declared.step.Step.TheVariants.{Fill4, Fill3, Fill2, FillLeaf, Drop, Do}

-- words with a space between any two, and LF at the end
abbrev pub line_of : List (List ℕ) → List ℕ
line_of [] = codes "\n"
line_of (word ∷ []) = word ++ codes "\n"
line_of (word ∷ next ∷ words) = word ++ (codes " " ++ line_of (next ∷ words))

-- a line of these words was added to a text
abbrev pub PushesLine : List ℕ → List ℕ → List (List ℕ) → Type 0
PushesLine old new words = new ≡ old ++ line_of words

-- an address: hexadecimal in lower case, with `0x` and no leading zeros
abbrev pub address_text : ℕ → List ℕ
address_text a = codes "0x" ++ digits 16 false a

-- a table, and the rights down to it
abbrev pub parent_words : Parent → List (List ℕ)
parent_words from = address_text from.table ∷ rights_text from.rights ∷ []

-- the words of a step, where an event is the one with this number
abbrev pub step_words : ℕ → Step → List (List ℕ)
step_words number (Fill4 p la) = codes "fill4" ∷ decimal p ∷ address_text la ∷ []
step_words number (Fill3 p la from) =
    codes "fill3" ∷ decimal p ∷ address_text la ∷ parent_words from
step_words number (Fill2 p la from) =
    codes "fill2" ∷ decimal p ∷ address_text la ∷ parent_words from
step_words number (FillLeaf p la level from) =
    codes "leaf" ∷ decimal p ∷ address_text la ∷ decimal (level_number level) ∷ parent_words from
step_words number (Drop p member) = codes "drop" ∷ decimal p ∷ []
step_words number (Do e) = codes "do" ∷ decimal number ∷ []

abbrev pub step_text : ℕ → Step → List ℕ
step_text number step = line_of (step_words number step)

-- the number of the event that comes next after a step
abbrev pub next_number : ℕ → Step → ℕ
next_number number (Do e) = number + 1
next_number number (Fill4 p la) = number
next_number number (Fill3 p la from) = number
next_number number (Fill2 p la from) = number
next_number number (FillLeaf p la level from) = number
next_number number (Drop p member) = number

-- the lines of steps, of which the first event is the one with this number
abbrev pub lines_from : ℕ → List Step → List ℕ
lines_from number [] = []
lines_from number (step ∷ steps) =
    step_text number step ++ lines_from (next_number number step) steps

-- the lines of a run, whose events are counted from 0
abbrev pub run_text : List Step → List ℕ
run_text steps = lines_from 0 steps
