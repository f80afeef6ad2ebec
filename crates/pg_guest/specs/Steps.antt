-- The steps that a turn is made of.
use Rattle.std.specs.Prelude.{◌≡◌, ℕ, None, IsSome}
use Rattle.std.specs.List.{AllByRecursion}
use Rattle.pg_entry.specs.declared.Level.{Level}
use Rattle.pg_event.specs.declared.event.Event.{Event}
use Rattle.pg_event.specs.Form.{processor_of, broken_rule}
use Rattle.pg_event.specs.Heads.{Head}
use Rattle.pg_guest.specs.Tasks.{shape, IsWellFormed}
use Rattle.pg_world.specs.declared.walk.LevelRead.{LevelRead}
use Rattle.pg_world.specs.declared.walk.LevelRead.TheVariants.{Entry, Fault, Assisted}
use Rattle.pg_world.specs.declared.error.WorldError.{WorldError}
use Rattle.pg_world.specs.declared.error.WorldError.TheVariants as errors
use Rattle.pg_guest.specs.declared.advance.Advance.{Advance}
use Rattle.pg_guest.specs.declared.advance.Advance.TheVariants as answers
use Rattle.pg_guest.specs.declared.advance.Stop.{Stop}
use Rattle.pg_guest.specs.declared.advance.Stop.TheVariants as stops
use Rattle.pg_guest.specs.Turn.{Processor}

-- a processor is number p of a run with these settings: its MAXPHYADDR is the run's, and its
-- instructions are well formed
pub record IsOfRun (head : Head) (p : ℕ) (x : Processor) : Type 0 where
  pub width : x.caches.width ≡ head.cfg.m
  pub well : AllByRecursion (IsWellFormed head p) x.instructions

-- a well-formed event of p that carries an instruction out
pub record IsOwnEvent (head : Head) (p : ℕ) (e : Event) : Type 0 where
  pub own : processor_of e ≡ p
  pub asked : IsSome (shape e)
  pub formed : broken_rule head e ≡ None

-- what a turn answers whose read came to this
abbrev pub answer_of : Level → LevelRead → Advance
answer_of level (Entry value moment) = answers.Read level
answer_of level (Fault receipt) = answers.Done receipt
answer_of level (Assisted receipt) = answers.Assisted receipt

-- why a turn is stopped where the world refuses a call. Its calls are well formed
abbrev pub IsStopOf : WorldError → Stop → Type 0
IsStopOf errors.Malformed why = ⊥
IsStopOf errors.Full why = why ≡ stops.Full
IsStopOf errors.Finished why = why ≡ stops.Finished
IsStopOf errors.Memory why = why ≡ stops.Memory
