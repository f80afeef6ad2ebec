-- What is answered of events of a run that are judged by themselves, as those of a segment.
use Rattle.std.specs.Prelude.{ℕ, ◌+◌, ◌*◌, ◌<◌, ◌≤◌, List, length, Option, Some, None, IfSome}
use Rattle.pg_event.specs.declared.event.Event.{Event}
use Rattle.pg_event.specs.Heads.{Head}
use Rattle.pg_search.specs.Law.{CanBeWitnessed}
use Rattle.pg_certify.specs.Certified.{IsFound, NamesMoments}

-- event k is one of those from one number on and below another
abbrev pub IsBetween : ℕ → ℕ → ℕ → Type 0
IsBetween from to k = (from ≤ k) × (k < to)

-- event k is one of the segment with this number, where a full one has so many events
abbrev pub IsOfSegment : ℕ → ℕ → ℕ → Type 0
IsOfSegment size n = IsBetween (n * size) (n * size + size)

-- the events before the one that was denied, or all
abbrev pub end_of : List Event → Option ℕ → ℕ
end_of events None = length events
end_of events (Some n) = n

-- of the events that are meant, the least that no moments witness, or none
pub record IsLeastDenied (Mine : ℕ → Type 0) (head : Head) (events : List Event)
    (r : Option ℕ) : Type 0 where
  pub within : IfSome r (λ n. n < length events)
  pub mine : IfSome r Mine
  pub names : IfSome r (NamesMoments events)
  pub denied : IfSome r (λ n. CanBeWitnessed head events n → ⊥)
  pub before : (k : ℕ) → k < end_of events r → Mine k →
      (x : Event) × IsFound head events k x

-- what is answered of the segment with this number
abbrev pub IsAnswer : Head → List Event → ℕ → Option ℕ → Type 0
IsAnswer head events n = IsLeastDenied (IsOfSegment head.segment n) head events
