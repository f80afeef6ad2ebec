-- Outcomes among which are all that an access may have.
use Rattle.std.specs.Prelude.{◌≡◌, ℕ, List, [], ◌∷◌}
use Rattle.std.specs.List.{All, Any, AllPairs, Contains}
use Rattle.pg_entry.specs.declared.Cfg.{Cfg}
use Rattle.pg_entry.specs.declared.AccessKind.{AccessKind}
use Rattle.pg_entry.specs.declared.Cause.TheVariants as causes
use Rattle.pg_entry.specs.Permission.{fault_code}
use Rattle.pg_event.specs.declared.event.Event.{Event}
use Rattle.pg_event.specs.declared.event.Outcome.{Outcome}
use Rattle.pg_event.specs.declared.event.Outcome.TheVariants.{Fault}
use Rattle.pg_event.specs.Spelling.{Recorded}
use Rattle.pg_outcomes.specs.declared.allowed.Allowed.{Allowed}
use Rattle.pg_outcomes.specs.Allowing.{IsAllowed, IsBefore, IsTold}

-- the faults of an access, the lowest code first
abbrev pub faults_of : Cfg → AccessKind → List Outcome
faults_of cfg kind =
    Fault (fault_code cfg kind causes.Absent) ∷ Fault (fault_code cfg kind causes.Denied)
    ∷ Fault (fault_code cfg kind causes.Reserved) ∷ []

-- these rise, and each outcome that is allowed is one of them
pub record AreCandidates (r : Recorded) (n : ℕ) (e : Event) (os : List Outcome) : Type 0 where
  pub all : (o : Outcome) → IsAllowed r.head r.events n e o → Contains os o
  pub rising : AllPairs IsBefore os

-- those of the outcomes that are allowed, in their order
pub record AreFound (r : Recorded) (n : ℕ) (e : Event) (os : List Outcome) (xs : List Allowed) :
    Type 0 where
  pub each : All (IsTold r n e) xs
  pub among : All (λ (x : Allowed). Contains os x.outcome) xs
  pub all : (o : Outcome) → Contains os o → IsAllowed r.head r.events n e o →
      Any (λ (x : Allowed). x.outcome ≡ o) xs
  pub rising : AllPairs (λ (x y : Allowed). IsBefore x.outcome y.outcome) xs

-- what is told of this outcome
abbrev pub IsToldOf : Recorded → ℕ → Event → Outcome → Allowed → Type 0
IsToldOf r n e o x = (x.outcome ≡ o) × IsTold r n e x
