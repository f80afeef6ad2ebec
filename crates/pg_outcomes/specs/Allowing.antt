-- Which outcomes an access may have.
use Rattle.std.specs.Prelude.{◌≡◌, ℕ, ◌<◌, List}
use Rattle.std.specs.List.{All, Any, AllPairs}
use Rattle.pg_event.specs.declared.event.Event.{Event}
use Rattle.pg_event.specs.declared.event.Outcome.{Outcome}
use Rattle.pg_event.specs.declared.event.Outcome.TheVariants.{Page, Fault}
use Rattle.pg_event.specs.Heads.{Head}
use Rattle.pg_event.specs.Spelling.{Recorded}
use Rattle.pg_search.specs.Law.{AreWitness, AreFreshestOf}
use Rattle.pg_outcomes.specs.declared.allowed.Allowed.{Allowed}
use Rattle.pg_reach.specs.Placed.{with_outcome}

-- some moments witness the access with this outcome as event n
abbrev pub IsAllowed : Head → List Event → ℕ → Event → Outcome → Type 0
IsAllowed head events n e o = (ws : List ℕ) × AreWitness head events n (with_outcome o e) ws

-- pages come before faults, lower addresses before higher ones, and so do codes
abbrev pub IsBefore : Outcome → Outcome → Type 0
IsBefore (Page a) (Page b) = a < b
IsBefore (Page a) (Fault d) = Unit {0}
IsBefore (Fault c) (Page b) = ⊥
IsBefore (Fault c) (Fault d) = c < d

-- the moments witness the access with the outcome as event n, and none that do are fresher
pub record IsTold (r : Recorded) (n : ℕ) (e : Event) (x : Allowed) : Type 0 where
  pub witness : AreWitness r.head r.events n (with_outcome x.outcome e) x.moments
  pub freshest : AreFreshestOf r.head r.events n (with_outcome x.outcome e) x.moments

-- an outcome is among these exactly where it is allowed, each is there once, and they rise
pub record AreOutcomes (r : Recorded) (n : ℕ) (e : Event) (xs : List Allowed) : Type 0 where
  pub each : All (IsTold r n e) xs
  pub all : (o : Outcome) → IsAllowed r.head r.events n e o →
      Any (λ (x : Allowed). x.outcome ≡ o) xs
  pub rising : AllPairs (λ (x y : Allowed). IsBefore x.outcome y.outcome) xs
