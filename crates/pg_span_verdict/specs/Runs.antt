-- Records with no one order: whether the events have an order in which some run of the machine has
-- them (Intel SDM, vol. 3, 4.10).
use Rattle.std.specs.Prelude.{ℕ, ◌-◌, ◌^◌, ◌≤◌, ◌↔◌, List, length}
use Rattle.pg_event.specs.declared.event.Event.{Event}
use Rattle.pg_check.specs.Kept.{AreWellFormed}
use Rattle.pg_certify.specs.Certified.{IsCertified, CanBeCertified, IsDenied, HasRunButMoments}
use Rattle.pg_span_run.specs.Orders.{Spanned, IsOrder, ordered}
use Rattle.pg_span_verdict.specs.declared.in_order.InOrder.{InOrder}
use Rattle.pg_span_verdict.specs.declared.in_order.InOrder.TheVariants.{Certified, Denied, NoOrder}

-- in some order of the events they are those of a run, but for their moments
abbrev pub HasOrderedRun : Spanned → Type 0
HasOrderedRun s =
    (order : List ℕ) × IsOrder s order × HasRunButMoments s.head (ordered s.events order)

-- in some order of the events some moments make them an accepted record
abbrev pub CanBeOrdered : Spanned → Type 0
CanBeOrdered s =
    (order : List ℕ) × IsOrder s order × CanBeCertified s.head (ordered s.events order)

-- what is told of the events in an order
abbrev pub IsToldOf : Spanned → List ℕ → InOrder → Type 0
IsToldOf s order Certified = IsOrder s order × CanBeCertified s.head (ordered s.events order)
IsToldOf s order (Denied place) = IsOrder s order × IsDenied s.head (ordered s.events order) place
IsToldOf s order NoOrder = IsOrder s order → ⊥

-- where they are certified in an order, they are those of a run in this order
abbrev pub HasRunIfCertified : Spanned → List ℕ → InOrder → Type 0
HasRunIfCertified s order Certified = HasRunButMoments s.head (ordered s.events order)
HasRunIfCertified s order (Denied place) = Unit {0}
HasRunIfCertified s order NoOrder = Unit {0}

-- well-formed events that moments certify in one of their orders are those of a run in this order
abbrev pub OrderedEventsRun : Type 0
OrderedEventsRun = (s : Spanned) (order : List ℕ) (found : List Event) →
    AreWellFormed s.head s.events → IsOrder s order →
    IsCertified s.head (ordered s.events order) found →
    HasRunButMoments s.head (ordered s.events order)

-- so many well-formed events have an order with a run exactly where they have one in which moments
-- certify them
abbrev pub OrderedExactlyWhereARunExists : Type 0
OrderedExactlyWhereARunExists = (s : Spanned) → AreWellFormed s.head s.events →
    length s.events ≤ 2 ^ 32 - 1 → CanBeOrdered s ↔ HasOrderedRun s
