-- Records with no one order: whether an event comes to pass in some order of the events (Intel SDM,
-- vol. 3, 4.10).
use Rattle.std.specs.Prelude.{◌≡◌, ℕ, ◌+◌, List, Some, take, slice_get}
use Rattle.pg_event.specs.declared.event.Event.{Event}
use Rattle.pg_event.specs.declared.event.Event.TheVariants.{Write, Access, Assist, MovCr3, Invlpg}
use Rattle.pg_event.specs.declared.event.Event.TheVariants.{Invpcid, MovCr4Pge}
use Rattle.pg_machine.specs.declared.step.Step.{Step}
use Rattle.pg_machine.specs.Machine.{IsRun, visible}
use Rattle.pg_run_of.specs.Converse.{AreSameButMoments}
use Rattle.pg_span_run.specs.Orders.{Spanned, IsOrder, ordered}

-- a run of the machine begins with the events of an order up to a place, but for their moments
abbrev pub RunComesTo : Spanned → List ℕ → ℕ → Type 0
RunComesTo s order place =
    (steps : List Step) × IsRun s.head steps
    × AreSameButMoments (take (place + 1) (ordered s.events order))
    (take (place + 1) (visible steps))

-- in no order of the events a run comes to event i
abbrev pub NeverComes : Spanned → ℕ → Type 0
NeverComes s i = (order : List ℕ) (place : ℕ) → IsOrder s order →
    slice_get order place ≡ Some i → RunComesTo s order place → ⊥

-- an event names a walk for this linear address: it is an access or an assist
abbrev pub NamesWalk : ℕ → Event → Type 0
NamesWalk la (Write p addr value) = ⊥
NamesWalk la (Access p flags address outcome moments) = address ≡ la
NamesWalk la (Assist p flags address word moments) = address ≡ la
NamesWalk la (MovCr3 p operand) = ⊥
NamesWalk la (Invlpg p address) = ⊥
NamesWalk la (Invpcid p kind pcid address) = ⊥
NamesWalk la (MovCr4Pge p on) = ⊥

-- event i names a walk for this linear address
abbrev pub NamesWalkAt : List Event → ℕ → ℕ → Type 0
NamesWalkAt events i la = (e : Event) × (slice_get events i ≡ Some e) × NamesWalk la e

-- event i is an access or an assist
abbrev pub NamesSomeWalk : List Event → ℕ → Type 0
NamesSomeWalk events i = (la : ℕ) × NamesWalkAt events i la
