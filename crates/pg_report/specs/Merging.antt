-- What the verdicts of a round's segments come to.
use Rattle.std.specs.Prelude.{◌≡◌, ◌≢◌, ◌⊎◌, ℕ, ◌-◌, ◌≤◌, ◌<◌, ◌==◌, List, All, Contains, count_by}
use Rattle.std.specs.Prelude.{length, slice_index_or, Option, None, Some, Result, Ok, Err}
use Rattle.pg_event.specs.declared.event.Reason.{Reason}
use Rattle.pg_check.specs.declared.stretch.SegmentVerdict.{SegmentVerdict}
use Rattle.pg_pool.specs.declared.round.Round.{Round}
use Rattle.pg_pool.specs.Rounds.{IsIn}
use Rattle.pg_report.specs.declared.error.MergeError.{MergeError}
use Rattle.pg_report.specs.declared.error.MergeError.TheVariants as errors
use Rattle.pg_report.specs.declared.report.Verdict.{Verdict}
use Rattle.pg_report.specs.declared.report.Verdict.TheVariants.{Yes, No}

-- how many verdicts are of the segment with this number
abbrev pub times_judged : ℕ → List SegmentVerdict → ℕ
times_judged n verdicts = count_by (λ v. v.number == n) verdicts

-- a segment of the round has two verdicts
abbrev pub IsDouble : Round → List SegmentVerdict → ℕ → Type 0
IsDouble r verdicts n = IsIn r n × (1 < times_judged n verdicts)

-- a segment of the round has no verdict
abbrev pub IsMissing : Round → List SegmentVerdict → ℕ → Type 0
IsMissing r verdicts n = IsIn r n × (times_judged n verdicts ≡ 0)

pub record IsLeast (P : ℕ → Type 0) (n : ℕ) : Type 0 where
  pub is : P n
  pub least : (m : ℕ) → P m → n ≤ m

abbrev pub NoneIs : (ℕ → Type 0) → Type 0
NoneIs P = (n : ℕ) → P n → ⊥

-- of the verdicts that are of no segment of the round, this is the one with the least number
pub record IsStranger (r : Round) (verdicts : List SegmentVerdict) (v : SegmentVerdict) :
    Type 0 where
  pub there : Contains verdicts v
  pub outside : IsIn r v.number → ⊥
  pub least : All (λ u. IsIn r u.number ⊎ (v.number ≤ u.number)) verdicts

-- each segment of the round has one verdict, and no verdict is of another
pub record AreOneEach (r : Round) (verdicts : List SegmentVerdict) : Type 0 where
  pub no_double : NoneIs (IsDouble r verdicts)
  pub no_stranger : All (λ v. IsIn r v.number) verdicts
  pub no_missing : NoneIs (IsMissing r verdicts)

-- of the verdicts that tell a bad event, this is the one with the lowest number
pub record IsLowest (verdicts : List SegmentVerdict) (v : SegmentVerdict) : Type 0 where
  pub there : Contains verdicts v
  pub bad : v.first_bad ≢ None
  pub lowest : All (λ u. (u.first_bad ≡ None) ⊎ (v.number ≤ u.number)) verdicts

-- the first bad event of the lowest segment that has one
abbrev pub IsFirstBad : List SegmentVerdict → ℕ × Reason → Type 0
IsFirstBad verdicts bad =
    (v : SegmentVerdict) × IsLowest verdicts v × (v.first_bad ≡ Some bad)

-- the verdicts come to this
abbrev pub Merges : Round → List SegmentVerdict → Result Verdict MergeError → Type 0
Merges r verdicts (Ok Yes) =
    AreOneEach r verdicts × All (λ v. v.first_bad ≡ None) verdicts
Merges r verdicts (Ok (No event reason)) =
    AreOneEach r verdicts × IsFirstBad verdicts (event, reason)
Merges r verdicts (Err (errors.Double n)) = IsLeast (IsDouble r verdicts) n
Merges r verdicts (Err (errors.Stranger n)) =
    NoneIs (IsDouble r verdicts)
    × ((v : SegmentVerdict) × IsStranger r verdicts v × (v.number ≡ n))
Merges r verdicts (Err (errors.Missing n)) =
    NoneIs (IsDouble r verdicts) × All (λ v. IsIn r v.number) verdicts
    × IsLeast (IsMissing r verdicts) n
Merges r verdicts (Err errors.Memory) = Unit {0}

abbrev pub merge_number : MergeError → ℕ
merge_number (errors.Double n) = 1
merge_number (errors.Stranger n) = 2
merge_number (errors.Missing n) = 3
merge_number errors.Memory = 4

-- how often each segment of the round was judged, in the order of the segments
pub record AreCounts (r : Round) (verdicts : List SegmentVerdict) (counts : List ℕ) : Type 0 where
  pub length_is : length counts ≡ r.last - r.first
  pub count : (n : ℕ) → IsIn r n → slice_index_or counts (n - r.first) 0 ≡ times_judged n verdicts

-- this is the verdict with the lower number of two, of which the first may lack
abbrev pub IsLower : Option SegmentVerdict → SegmentVerdict → SegmentVerdict → Type 0
IsLower None other result = result ≡ other
IsLower (Some v) other result =
    ((result ≡ v) × (v.number ≤ other.number)) ⊎ ((result ≡ other) × (other.number < v.number))
