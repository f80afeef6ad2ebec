-- The moments at which the same is read.
use Rattle.std.proofs.Common.{◌≡◌, ℕ, ◌<◌, ◌≤◌, List, Some, ◌∙◌, arith, inl, inr}
use Rattle.std.proofs.lemmas.Bool.{cases_lt}
use Rattle.pg_timeline.specs.declared.timeline.Stamp.{Stamp}
use Rattle.pg_timeline.specs.declared.timeline.Span.{Span}
use Rattle.pg_timeline.specs.Timelines.{moment_in, count_below, IsRising, IsSpan}
use Rattle.pg_timeline.proofs.Halves.{count_from, count_up_to}

-- a stamp among those that are counted lies below the moment
pub below_count : {V : Type 0} (xs : List (Stamp V)) (w k m : ℕ) → IsRising xs → moment_in xs k ≡ Some m → k < count_below w xs → m < w
below_count xs w k m r at h =
    elim (cases_lt m w) [
      | inl below ↦ below
      | inr above ↦ absurd (omega (arith, count_up_to xs w k m r at above))
    ]

-- and one after them does not
pub above_count : {V : Type 0} (xs : List (Stamp V)) (w k m : ℕ) → IsRising xs → moment_in xs k ≡ Some m → count_below w xs ≤ k → w ≤ m
above_count xs w k m r at h =
    elim (cases_lt m w) [
      | inl below ↦ absurd (omega (arith, count_from xs w k m r at below))
      | inr above ↦ above
    ]

-- what reads the same has the same span
pub IsSpan-same : {V : Type 0} (f g : ℕ → V) (moment : ℕ) (span : Span V) → ((w : ℕ) → g w ≡ f w) → IsSpan f moment span → IsSpan g moment span
IsSpan-same f g moment span e s = record { low = s.low; high = s.high; same = λ w low high. e w ∙ s.same w low high }
