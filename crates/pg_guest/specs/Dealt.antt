-- How instructions are kept: the processors in the order of the lines, and each processor's own.
use Rattle.std.specs.Prelude.{◌≡◌, ℕ, ◌==◌, if◌then◌else◌, List, [], ◌∷◌, drop, map}
use Rattle.std.specs.Prelude.{slice_index_or, Vec}
use Rattle.pg_guest.specs.declared.instruction.Instruction.{Instruction}
use Rattle.pg_guest.specs.declared.instruction.Task.{Task}
use Rattle.pg_guest.specs.Tasks.{instructions_of, order_of}

-- the instructions of a processor, none where its list lacks
abbrev pub list_at : {A : Type 0} → List (Vec Instruction A) → ℕ → List Instruction
list_at lists p = slice_index_or (map (λ list. list.items) lists) p []

-- what an instruction of one processor adds to the instructions of another
abbrev pub own_of : ℕ → ℕ → Instruction → List Instruction
own_of p q instruction = if p == q then instruction ∷ [] else []

abbrev pub without_first : ℕ → (ℕ → List Instruction) → ℕ → List Instruction
without_first p lists q = if p == q then drop 1 (lists q) else lists q

abbrev pub with_first : ℕ → List Instruction → List Task → List Task
with_first p [] tasks = tasks
with_first p (instruction ∷ others) tasks =
    record { p = p; instruction = instruction } ∷ tasks

-- the instructions in the order of the lines: each line's is the next of its processor's own
abbrev pub dealt : List ℕ → (ℕ → List Instruction) → List Task
dealt [] lists = []
dealt (p ∷ order) lists = with_first p (lists p) (dealt order (without_first p lists))

-- these are the processors of the tasks, and the instructions of each
pub record AreDealt (order : List ℕ) (lists : ℕ → List Instruction) (tasks : List Task)
    : Type 0 where
  pub processors : order ≡ order_of tasks
  pub instructions : (p : ℕ) → lists p ≡ instructions_of p tasks
