-- Laws of scripts and of the instructions that events carry out.
use Rattle.std.specs.Prelude.{◌≡◌, ℕ, zero, suc, ◌+◌, List, length, None, IsSome}
use Rattle.pg_event.specs.declared.event.Event.{Event}
use Rattle.pg_event.specs.declared.version.Version.TheVariants.{One}
use Rattle.pg_event.specs.Form.{broken_rule}
use Rattle.pg_event.specs.Heads.{Head}
use Rattle.pg_guest.specs.declared.instruction.Task.{Task}
use Rattle.pg_guest.specs.Tasks.{shape, instructions_of}
use Rattle.pg_guest.specs.Reading.{Scripted, IsScript}

-- how many instructions so many processors have, from processor 0 on
abbrev pub count_below : ℕ → List Task → ℕ
count_below zero tasks = 0
count_below (suc p) tasks = count_below p tasks + length (instructions_of p tasks)

-- the processors have all instructions of a script between them
abbrev pub InstructionsAddUp : Type 0
InstructionsAddUp = (s : Scripted) → IsScript s →
    count_below (length s.head.processors) s.tasks ≡ length s.tasks

-- in version 1 each event carries an instruction out
abbrev pub EachCarriesOut : Type 0
EachCarriesOut = (head : Head) (e : Event) →
    head.version ≡ One → broken_rule head e ≡ None → IsSome (shape e)
