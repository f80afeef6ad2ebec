-- What building a run of a record answers.
use Rattle.std.specs.Prelude.{◌≡◌, ◌*◌, ◌≤◌, List, length, Some}
use Rattle.pg_event.specs.declared.event.Event.{Event}
use Rattle.pg_event.specs.Heads.{Head}
use Rattle.pg_event.specs.Witness.{Accepted, first_bad}
use Rattle.pg_machine.specs.declared.step.Step.{Step}
use Rattle.pg_machine.specs.Machine.{IsRun, visible}
use Rattle.pg_run_of.specs.declared.build.BuildError.{BuildError}
use Rattle.pg_run_of.specs.declared.build.BuildError.TheVariants.{NotAccepted, Memory}
use Rattle.pg_run_of.specs.Plan.{steps_of, DropsNothing}

-- the steps are the planned run of accepted events: a run of the machine that has exactly these
-- events, forgets nothing, and takes at most five steps an event
pub record BuildsRun (head : Head) (events : List Event) (steps : List Step) : Type 0 where
  pub accepted : Accepted head events
  pub planned : steps ≡ steps_of head events
  pub run : IsRun head steps
  pub all : visible steps ≡ events
  pub keeps : DropsNothing steps
  pub few : length steps ≤ 5 * length events

-- events are not accepted, by this first bad event; running out of memory says nothing of them
abbrev pub IsNotAccepted : Head → List Event → BuildError → Type 0
IsNotAccepted head events (NotAccepted event reason) = first_bad head events ≡ Some (event, reason)
IsNotAccepted head events Memory = Unit {0}
