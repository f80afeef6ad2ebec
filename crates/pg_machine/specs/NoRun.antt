-- A record that no run of the machine has, whatever rules its processor is held to.
use Rattle.std.specs.Prelude.{◌≡◌, true, List, [], ◌∷◌}
use Rattle.pg_entry.specs.declared.Rules.{Rules}
use Rattle.pg_entry.specs.Rules.{all_rules}
use Rattle.pg_event.specs.declared.version.Version.TheVariants as versions
use Rattle.pg_event.specs.declared.event.Event.{Event}
use Rattle.pg_event.specs.declared.event.Event.TheVariants as events
use Rattle.pg_event.specs.declared.event.Outcome.TheVariants as outcomes
use Rattle.pg_event.specs.Heads.{Head, with_rules}
use Rattle.pg_machine.specs.declared.step.Step.{Step}
use Rattle.pg_machine.specs.Machine.{IsRun, visible}

-- MAXPHYADDR 40, WP and NXE, and one processor with global pages
abbrev pub one_processor : Head
one_processor = record {
  version = versions.One;
  cfg = record { flags = record { 0 = 3 }; m = 40; rules = all_rules };
  segment = 16;
  processors = (0x1001, true) ∷ [];
}

-- a read by user code at 0x5123, that is answered by 0x9123
abbrev pub answered_read : Event
answered_read = events.Access 0 4 0x5123 (outcomes.Page 0x9123) (0 ∷ 0 ∷ 0 ∷ 0 ∷ [])

abbrev pub SomeRecordHasNoRun : Type 0
SomeRecordHasNoRun =
    (rules : Rules) (steps : List Step) → IsRun (with_rules one_processor rules) steps →
    visible steps ≡ answered_read ∷ [] → ⊥
