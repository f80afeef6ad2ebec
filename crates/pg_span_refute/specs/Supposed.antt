-- What is supposed of the orders of a record: that of two events one comes first.
use Rattle.std.specs.Prelude.{◌≡◌, ℕ, ◌<◌, ◌⊎◌, List, [], ◌∷◌, ◌++◌, length, Some, slice_get}
use Rattle.pg_machine.specs.Machine.{IsIn}
use Rattle.pg_span_run.specs.Orders.{Spanned, IsOrder, StandsBefore, MustPrecede}
use Rattle.pg_span_run.specs.Orders.{AreOfOneProcessor}
use Rattle.pg_span_refute.specs.declared.deduced.Refuted.{Refuted}
use Rattle.pg_span_refute.specs.declared.edge.Edge.{Edge}
use Rattle.pg_span_refute.specs.Memory.{IsWrite}
use Rattle.pg_span_refute.specs.Orders.{RunComesTo, NeverComes, NamesSomeWalk}
use Rattle.pg_span_refute.specs.Witness.{HasNoWitness}

-- an order is as supposed
abbrev pub Keeps : List ℕ → List Edge → Type 0
Keeps order edges = (edge : Edge) → IsIn edge edges → StandsBefore order edge.first edge.second

-- in no order of the events that is as supposed a run comes to event i
abbrev pub NeverComesSo : Spanned → List Edge → ℕ → Type 0
NeverComesSo s edges i = (order : List ℕ) (place : ℕ) → IsOrder s order → Keeps order edges →
    slice_get order place ≡ Some i → RunComesTo s order place → ⊥

-- without a witness no run comes to event i
abbrev pub WithoutAWitness : Type 0
WithoutAWitness = (s : Spanned) (edges : List Edge) (i : ℕ) → HasNoWitness s edges i →
    NeverComesSo s edges i

-- each order in which a run comes to event i is as supposed
abbrev pub AreSure : Spanned → List Edge → ℕ → Type 0
AreSure s edges i = (order : List ℕ) (place : ℕ) → IsOrder s order →
    slice_get order place ≡ Some i → RunComesTo s order place → Keeps order edges

-- event j is event i or comes before it in every order
abbrev pub IsUpTo : Spanned → ℕ → ℕ → Type 0
IsUpTo s j i = (j ≡ i) ⊎ MustPrecede s j i

-- a write and an access or assist, each of which may come first
pub record IsRace (s : Spanned) (edge : Edge) : Type 0 where
  pub write : IsWrite s.events edge.first
  pub walk : NamesSomeWalk s.events edge.second
  pub before : MustPrecede s edge.first edge.second → ⊥
  pub behind : MustPrecede s edge.second edge.first → ⊥

-- they do, and the write comes first in each order in which a run comes to the access
pub record IsDeduced (s : Spanned) (edge : Edge) : Type 0 where
  pub race : IsRace s edge
  pub first : (order : List ℕ) (place : ℕ) → IsOrder s order →
      slice_get order place ≡ Some edge.second → RunComesTo s order place →
      StandsBefore order edge.first edge.second

abbrev pub AreDeduced : Spanned → List Edge → Type 0
AreDeduced s edges = (edge : Edge) → IsIn edge edges → IsDeduced s edge

-- the same two events the other way round
abbrev pub turned : Edge → Edge
turned edge = record { first = edge.second; second = edge.first }

-- each edge follows from these and those before it: with them, and the two events the other way
-- round, nothing witnesses the second
unfoldable pub FollowInTurn : Spanned → List Edge → List Edge → Type 0
FollowInTurn s before [] = Unit {0}
FollowInTurn s before (edge ∷ edges) =
    HasNoWitness s (before ++ turned edge ∷ []) edge.second
    × FollowInTurn s (before ++ edge ∷ []) edges

-- what was added to edges is of this access
abbrev pub AddsEdgesOf : ℕ → List Edge → List Edge → Type 0
AddsEdgesOf access old new =
    (edge : Edge) → IsIn edge new → IsIn edge old ⊎ (edge.second ≡ access)

-- each edge is of an earlier event of the processor of event i
abbrev pub AreOfEarlier : Spanned → List Edge → ℕ → Type 0
AreOfEarlier s edges i = (edge : Edge) → IsIn edge edges →
    (edge.second < i) × AreOfOneProcessor s.events edge.second i

-- in no order a run comes to the event: each edge follows from those before it, and with all of
-- them nothing witnesses the event
pub record IsRefuted (s : Spanned) (found : Refuted) : Type 0 where
  pub within : found.number < length s.events
  pub never : NeverComes s found.number
  pub none : HasNoWitness s found.edges.items found.number
  pub follow : FollowInTurn s [] found.edges.items
  pub deduced : AreDeduced s found.edges.items
  pub earlier : AreOfEarlier s found.edges.items found.number
