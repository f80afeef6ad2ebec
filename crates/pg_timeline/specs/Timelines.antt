-- Values over the moments of a run.
use Rattle.std.specs.Prelude.{◌≡◌, ℕ, suc, ◌+◌, ◌<◌, ◌≤◌, ◌^◌, Bool, true, false}
use Rattle.std.specs.Prelude.{nat_eq, nat_lt, nat_le, if◌then◌else◌, List, [], ◌∷◌}
use Rattle.std.specs.Prelude.{length, fold, slice_get, Option, Some, None}
use Rattle.std.specs.List.{filter, list_any}
use Rattle.std.specs.Option.{option_map, MatchOption}
use Rattle.pg_timeline.specs.declared.timeline.Stamp.{Stamp}
use Rattle.pg_timeline.specs.declared.timeline.Span.{Span}

-- one above the last moment, or 0
abbrev pub end_of : {V : Type 0} → List (Stamp V) → ℕ
end_of stamps = fold (λ n s. s.moment + 1) 0 stamps

-- the value of the last stamp below a moment
abbrev pub last_before : {V : Type 0} → ℕ → List (Stamp V) → Option V
last_before w stamps =
    fold (λ found s. if nat_lt s.moment w then Some s.value else found) None stamps

-- the moment of the first stamp that is not below one
abbrev pub first_from : {V : Type 0} → ℕ → List (Stamp V) → Option ℕ
first_from w [] = None
first_from w (s ∷ ss) = if nat_le w s.moment then Some s.moment else first_from w ss

-- the moment of the stamp with a number
abbrev pub moment_in : {V : Type 0} → List (Stamp V) → ℕ → Option ℕ
moment_in stamps i = option_map (λ s. s.moment) (slice_get stamps i)

-- whether a stamp has a moment
abbrev pub has_moment : {V : Type 0} → List (Stamp V) → ℕ → Bool
has_moment stamps j = list_any (λ s. nat_eq s.moment j) stamps

-- the least number from one on that passes a test, if any does
abbrev pub IsLeastFrom : (ℕ → Bool) → ℕ → Option ℕ → Type 0
IsLeastFrom test from found =
    MatchOption found ((j : ℕ) → from ≤ j → test j ≡ false)
    (λ m. (from ≤ m) × (test m ≡ true) × ((j : ℕ) → from ≤ j → j < m → test j ≡ false))

-- a moment lies in a span, at each moment of which the same is read
pub record IsSpan {V : Type 0} (read : ℕ → V) (moment : ℕ) (span : Span V) : Type 0 where
  pub low : span.from ≤ moment
  pub high : moment ≤ span.to
  pub same : (w : ℕ) → span.from ≤ w → w ≤ span.to → read w ≡ span.value

-- how many stamps are below a moment
abbrev pub count_below : {V : Type 0} → ℕ → List (Stamp V) → ℕ
count_below w [] = 0
count_below w (s ∷ ss) = if nat_lt s.moment w then suc (count_below w ss) else count_below w ss

-- the stamps below a moment
abbrev pub cut_at : {V : Type 0} → ℕ → List (Stamp V) → List (Stamp V)
cut_at w stamps = filter (λ s. nat_lt s.moment w) stamps

-- the moments rise, from one that is at least this
abbrev pub IsRisingFrom : {V : Type 0} → ℕ → List (Stamp V) → Type 0
IsRisingFrom n [] = Unit {0}
IsRisingFrom n (s ∷ ss) = (n ≤ s.moment) × IsRisingFrom (s.moment + 1) ss

abbrev pub IsRising : {V : Type 0} → List (Stamp V) → Type 0
IsRising stamps = IsRisingFrom 0 stamps

-- the moments rise, and are no more than there are numbers of events
pub record IsKept {V : Type 0} (stamps : List (Stamp V)) : Type 0 where
  pub rising : IsRising stamps
  pub short : length stamps ≤ 2 ^ 32
