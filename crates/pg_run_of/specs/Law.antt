-- An accepted record is the record of a run.
use Rattle.std.specs.Prelude.{◌≡◌, List, [], ◌∷◌, None}
use Rattle.std.specs.List.{AllByRecursion}
use Rattle.pg_entry.specs.declared.Rules.{Rules}
use Rattle.pg_event.specs.declared.event.Event.{Event}
use Rattle.pg_event.specs.Heads.{Head, with_rules}
use Rattle.pg_event.specs.Form.{broken_rule}
use Rattle.pg_event.specs.Spelling.{Recorded, IsRecord}
use Rattle.pg_event.specs.Witness.{Accepted}
use Rattle.pg_machine.specs.declared.step.Step.{Step}
use Rattle.pg_machine.specs.Machine.{IsRun, visible}
use Rattle.pg_machine.specs.NoRun.{one_processor, answered_read}

-- a run of the machine has exactly these events
abbrev pub HasRun : Head → List Event → Type 0
HasRun head events = (steps : List Step) × IsRun head steps × (visible steps ≡ events)

-- well-formed events that are all witnessed have a run
abbrev pub AcceptedEventsRun : Type 0
AcceptedEventsRun =
    (head : Head) (events : List Event) → AllByRecursion (λ e. broken_rule head e ≡ None) events →
    Accepted head events → HasRun head events

-- an accepted record has a run
abbrev pub AcceptedRecordsRun : Type 0
AcceptedRecordsRun = (r : Recorded) → IsRecord r → Accepted r.head r.events → HasRun r.head r.events

-- not every record has a run: a read that is answered before anything was written has none,
-- whatever rules its processor is held to
abbrev pub AnsweredReadHasNoRun : Type 0
AnsweredReadHasNoRun =
    (rules : Rules) → HasRun (with_rules one_processor rules) (answered_read ∷ []) → ⊥
