-- The instructions of a script and their processors.
use Rattle.std.specs.Prelude.{◌≡◌, ℕ, ◌==◌, if◌then◌else◌, List, [], ◌∷◌, map, Option, Some, None}
use Rattle.pg_event.specs.declared.event.Event.{Event}
use Rattle.pg_event.specs.declared.event.Event.TheVariants as events
use Rattle.pg_event.specs.declared.event.Outcome.TheVariants as outcomes
use Rattle.pg_event.specs.Heads.{Head}
use Rattle.pg_event.specs.Form.{processor_of, broken_rule}
use Rattle.pg_guest.specs.declared.instruction.Instruction.{Instruction}
use Rattle.pg_guest.specs.declared.instruction.Instruction.TheVariants as instructions
use Rattle.pg_guest.specs.declared.instruction.Task.{Task}

-- the instruction that an event carries out: the event without its processor, its outcome and its
-- moments. An assist carries out none
abbrev pub shape : Event → Option Instruction
shape (events.Write p addr value) = Some (instructions.Write addr value)
shape (events.Access p flags la outcome moments) = Some (instructions.Access flags la)
shape (events.Assist p flags la word moments) = None
shape (events.MovCr3 p operand) = Some (instructions.MovCr3 operand)
shape (events.Invlpg p la) = Some (instructions.Invlpg la)
shape (events.Invpcid p kind pcid la) = Some (instructions.Invpcid kind pcid la)
shape (events.MovCr4Pge p on) = Some (instructions.MovCr4Pge on)

-- an event of a processor that carries an instruction out; its outcome and its moments are any
abbrev pub event_of : ℕ → Instruction → Event
event_of p (instructions.Write addr value) = events.Write p addr value
event_of p (instructions.Access flags la) =
    events.Access p flags la (outcomes.Fault 0) (0 ∷ [])
event_of p (instructions.MovCr3 operand) = events.MovCr3 p operand
event_of p (instructions.Invlpg la) = events.Invlpg p la
event_of p (instructions.Invpcid kind pcid la) = events.Invpcid p kind pcid la
event_of p (instructions.MovCr4Pge on) = events.MovCr4Pge p on

-- each event of the processor that carries the instruction out is well formed
abbrev pub IsWellFormed : Head → ℕ → Instruction → Type 0
IsWellFormed head p instruction =
    (e : Event) → processor_of e ≡ p → shape e ≡ Some instruction → broken_rule head e ≡ None

-- the instructions of a processor, in the order of the lines
abbrev pub instructions_of : ℕ → List Task → List Instruction
instructions_of p [] = []
instructions_of p (task ∷ tasks) =
    if task.p == p then task.instruction ∷ instructions_of p tasks else instructions_of p tasks

-- the processors of the instructions, in the order of the lines
abbrev pub order_of : List Task → List ℕ
order_of tasks = map (λ task. task.p) tasks
