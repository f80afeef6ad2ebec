-- What is told of a record with no one order.
use Rattle.std.specs.Prelude.{◌≡◌, ℕ, ◌<◌, ◌≤◌, List, length}
use Rattle.pg_certify.specs.Certified.{CanBeCertified, IsDenied, HasRunButMoments}
use Rattle.pg_span_run.specs.Orders.{Spanned, IsOrder, ordered}
use Rattle.pg_span_run.specs.OrderLaws.{ends, EachPrecedesNext}
use Rattle.pg_span_refute.specs.declared.edge.Edge.{Edge}
use Rattle.pg_span_refute.specs.Impossible.{IsFirstNotGiven}
use Rattle.pg_span_refute.specs.Orders.{NeverComes}
use Rattle.pg_span_refute.specs.Supposed.{AreDeduced, AreOfEarlier}
use Rattle.pg_span_verdict.specs.Runs.{HasOrderedRun}
use Rattle.pg_span_verdict.specs.declared.verdict.Verdict.{Verdict}
use Rattle.pg_span_verdict.specs.declared.verdict.Verdict.TheVariants.{Yes, Never}
use Rattle.pg_span_verdict.specs.declared.verdict.Verdict.TheVariants.{NoneOfAll, Undecided}

-- in the order of a yes some moments make the events an accepted record, and some run of the
-- machine has them
pub record IsOrderedRun (s : Spanned) (order : List ℕ) : Type 0 where
  pub order_of : IsOrder s order
  pub certified : CanBeCertified s.head (ordered s.events order)
  pub run : HasRunButMoments s.head (ordered s.events order)

-- in no order a run comes to the event, so no order has a run, and the edges are deduced, of
-- earlier events of its processor; where they have one order alone, it is the least that no moments
-- witness in it
pub record HasNoRunTo (s : Spanned) (event : ℕ) (edges : List Edge) : Type 0 where
  pub within : event < length s.events
  pub never : NeverComes s event
  pub deduced : AreDeduced s edges
  pub earlier : AreOfEarlier s edges event
  pub only : EachPrecedesNext s → IsDenied s.head (ordered s.events (ends s)) event
  pub run : HasOrderedRun s → ⊥

-- there are several orders, and that in which the events ended has no run
pub record NeedsSearch (s : Spanned) : Type 0 where
  pub several : EachPrecedesNext s → ⊥
  pub ends : HasRunButMoments s.head (ordered s.events (ends s)) → ⊥

-- there are several orders of few events, and none has a run; the event says at which the search
-- gave up
pub record HasNoOrderedRun (s : Spanned) (event : ℕ) : Type 0 where
  pub within : event < length s.events
  pub few : length s.events ≤ 64
  pub several : EachPrecedesNext s → ⊥
  pub run : HasOrderedRun s → ⊥

-- there are several orders of more than eight events, that in which they ended has no run, and
-- nothing else is said; the event says at which the search gave up
pub record IsUndecided (s : Spanned) (event : ℕ) : Type 0 where
  pub within : event < length s.events
  pub many : 8 < length s.events
  pub search : NeedsSearch s

-- a yes has an order with a run, a no says that none has; where there is one order alone it is one
-- of both
abbrev pub IsVerdict : Spanned → Verdict → Type 0
IsVerdict s (Yes order) = IsOrderedRun s order.items
IsVerdict s (Never event edges) = HasNoRunTo s event edges.items
IsVerdict s (NoneOfAll event) = HasNoOrderedRun s event
IsVerdict s (Undecided event) = IsUndecided s event

-- the verdict says that no run comes to event i
abbrev pub TellsNever : ℕ → Verdict → Type 0
TellsNever i (Yes order) = ⊥
TellsNever i (Never event edges) = event ≡ i
TellsNever i (NoneOfAll event) = ⊥
TellsNever i (Undecided event) = ⊥

-- where there are several orders, the verdict tells the least event that no memory gives
abbrev pub TellsNotGiven : Spanned → Verdict → Type 0
TellsNotGiven s verdict =
    (EachPrecedesNext s → ⊥) → (i : ℕ) → IsFirstNotGiven s i → TellsNever i verdict
