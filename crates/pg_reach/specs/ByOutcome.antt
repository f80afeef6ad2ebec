-- Moments that are found for an access, by its outcome.
use Rattle.std.specs.Prelude.{◌≡◌, ℕ, ◌⊎◌, nat_eq, Bool, List, Option, Some, None, IfSome}
use Rattle.std.specs.HashMap.{get}
use Rattle.pg_event.specs.declared.event.Event.{Event}
use Rattle.pg_event.specs.declared.event.Outcome.{Outcome}
use Rattle.pg_event.specs.declared.event.Outcome.TheVariants.{Page, Fault}
use Rattle.pg_event.specs.Spelling.{Recorded}
use Rattle.pg_event.specs.Witness.{failing_event}
use Rattle.pg_search.specs.Law.{with_moments, AreWitness, AreFreshestOf}
use Rattle.pg_reach.specs.declared.walker.Walker.{Walker}
use Rattle.pg_reach.specs.declared.by_outcome.ByOutcome.{ByOutcome}
use Rattle.pg_reach.specs.Reaching.{IsFresher}
use Rattle.pg_reach.specs.Placed.{with_outcome}

-- by outcome moments, where there are some
abbrev pub Findings : Type 0
Findings = Outcome → Option (List ℕ)

abbrev pub found_at : ByOutcome → Findings
found_at x (Page page) = get nat_eq x.pages page
found_at x (Fault code) = get nat_eq x.faults code

-- the second has these moments for this outcome, and else what the first has
pub record IsPut (olds news : Findings) (outcome : Outcome) (ws : List ℕ) : Type 0 where
  pub here : news outcome ≡ Some ws
  pub each : (o : Outcome) → (news o ≡ olds o) ⊎ ((o ≡ outcome) × (news o ≡ Some ws))

-- where the first has moments that witness the access with an outcome, so has the second, and
-- moments that are as fresh
pub record IsGrown (r : Recorded) (n : ℕ) (freshest : Bool) (e : Event) (olds news : Findings) :
    Type 0 where
  pub some : (o : Outcome) → IfSome (olds o) (AreWitness r.head r.events n (with_outcome o e)) →
      IfSome (news o) (AreWitness r.head r.events n (with_outcome o e))
  pub fresher : (o : Outcome) (ws : List ℕ) →
      IsFresher freshest (olds o) ws → IsFresher freshest (news o) ws

-- moments witness the access with an outcome only where such are found for it
abbrev pub IsNoted : Recorded → Walker → Event → Outcome → List ℕ → Findings → Type 0
IsNoted r v e o ws found =
    failing_event r.head r.events v.number (with_moments ws (with_outcome o e)) ≡ None →
    IsFresher v.freshest (found o) ws

-- of an access as event n, the freshest moments that witness it with an outcome; there are none for
-- an outcome that no moments witness
pub record AreByOutcome (r : Recorded) (n : ℕ) (e : Event) (found : Findings) :
    Type 0 where
  pub some : (o : Outcome) → IfSome (found o) (AreWitness r.head r.events n (with_outcome o e))
  pub freshest : (o : Outcome) →
      IfSome (found o) (AreFreshestOf r.head r.events n (with_outcome o e))
  pub none : (o : Outcome) → found o ≡ None → (ws : List ℕ) →
      AreWitness r.head r.events n (with_outcome o e) ws → ⊥
