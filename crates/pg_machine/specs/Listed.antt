-- The state of a machine as lists, which stand for the functions of its definition.
use Rattle.std.specs.Prelude.{◌≡◌, ◌≤◌, length, ℕ, ◌==◌, if◌then◌else◌, List, [], fold}
use Rattle.std.specs.Prelude.{Option, Some, None, slice_get}
use Rattle.pg_event.specs.Heads.{Head}
use Rattle.pg_event.specs.declared.control.Control.{Control}
use Rattle.pg_event.specs.Values.{no_control}
use Rattle.pg_machine.specs.declared.step.Structure.{Structure}
use Rattle.pg_machine.specs.declared.step.Translation.{Translation}
use Rattle.pg_machine.specs.Machine.{State}

-- what one processor has
pub record ProcessorState : Type 0 where
  pub control : Control
  pub structures : List Structure
  pub translations : List Translation

-- the settings of a run, each write so far as its address and value, and what each processor has
pub record Listed : Type 0 where
  pub head : Head
  pub writes : List (ℕ × ℕ)
  pub processors : List ProcessorState

-- the value at an address: that of its last write, else 0
abbrev pub value_at : List (ℕ × ℕ) → ℕ → ℕ
value_at writes a = fold (λ value write. if write.0 == a then write.1 else value) 0 writes

-- a processor that is not there has nothing
abbrev pub processor_or_none : Option ProcessorState → ProcessorState
processor_or_none None = record { control = no_control; structures = []; translations = [] }
processor_or_none (Some processor) = processor

abbrev pub processor_at : List ProcessorState → ℕ → ProcessorState
processor_at processors p = processor_or_none (slice_get processors p)

-- the state of the definition
abbrev pub state_of : Listed → State
state_of l = record {
  memory = value_at l.writes;
  control = λ p. (processor_at l.processors p).control;
  structures = λ p. (processor_at l.processors p).structures;
  translations = λ p. (processor_at l.processors p).translations;
}

-- the lists of a machine: there is a place for each processor
pub record IsWhole (l : Listed) : Type 0 where
  pub low : 36 ≤ l.head.cfg.m
  pub high : l.head.cfg.m ≤ 52
  pub count : length l.processors ≡ length l.head.processors
