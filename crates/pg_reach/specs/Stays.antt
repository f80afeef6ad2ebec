-- When a processor has a PCID.
use Rattle.std.specs.Prelude.{◌≡◌, ℕ, ◌<◌, ◌≤◌, ◌^◌, List, Option, MatchOption}
use Rattle.std.specs.Prelude.{length, slice_index_or}
use Rattle.std.specs.List.{All, Contains}
use Rattle.pg_event.specs.declared.control.Control.{Control}
use Rattle.pg_event.specs.Spelling.{Recorded}
use Rattle.pg_event.specs.Values.{control_at}
use Rattle.pg_timeline.specs.declared.timeline.Span.{Span}
use Rattle.pg_reach.specs.declared.walker.Walker.{Walker}

-- the processor has the PCID at a moment
abbrev pub IsUnder : Recorded → Walker → ℕ → Type 0
IsUnder r v w = (control_at r.head r.events v.p w).pcid ≡ v.pcid

-- moments at which the control registers of a processor are the same
pub record IsSteady (r : Recorded) (p : ℕ) (s : Span Control) : Type 0 where
  pub same : (w : ℕ) → s.from ≤ w → w ≤ s.to → control_at r.head r.events p w ≡ s.value
  pub root : s.value.root < 2 ^ 52
  pub small : s.to < 2 ^ 32

-- and it has the PCID there
pub record IsStay (r : Recorded) (v : Walker) (s : Span Control) : Type 0 where
  pub steady : IsSteady r v.p s
  pub pcid : s.value.pcid ≡ v.pcid

-- one of the spans has the moment
abbrev pub IsWithin : List (Span Control) → ℕ → Type 0
IsWithin spans w = (s : Span Control) × Contains spans s × (s.from ≤ w) × (w ≤ s.to)

-- spans that have moments, each after those before it
pub record AreInOrder (spans : List (Span Control)) : Type 0 where
  pub each : (i : ℕ) (d : Span Control) → i < length spans →
      (slice_index_or spans i d).from ≤ (slice_index_or spans i d).to
  pub next : (i j : ℕ) (d : Span Control) → i < j → j < length spans →
      (slice_index_or spans i d).to < (slice_index_or spans j d).from

-- so many of the spans begin no later than a moment, and the others later
pub record IsCountTo (spans : List (Span Control)) (moment count : ℕ) : Type 0 where
  pub within : count ≤ length spans
  pub before : (i : ℕ) (d : Span Control) → i < count → (slice_index_or spans i d).from ≤ moment
  pub behind : (i : ℕ) (d : Span Control) → count ≤ i → i < length spans →
      moment < (slice_index_or spans i d).from

-- spans that have each moment from one up to another
pub record AreSpans (r : Recorded) (p low number : ℕ) (spans : List (Span Control)) : Type 0 where
  pub order : AreInOrder spans
  pub each : All (IsSteady r p) spans
  pub all : (w : ℕ) → low ≤ w → w ≤ number → IsWithin spans w

-- the stays, which have each moment from one up to another at which the processor has the PCID
pub record AreStays (r : Recorded) (v : Walker) (low : ℕ) (stays : List (Span Control)) : Type 0
  where
    pub order : AreInOrder stays
    pub each : All (IsStay r v) stays
    pub all : (w : ℕ) → low ≤ w → w ≤ v.number → IsUnder r v w → IsWithin stays w

-- those of some spans, in their order, of whose PCID this gives a number
pub record AreThose (of : ℕ → ℕ) (k : ℕ) (spans those : List (Span Control)) : Type 0 where
  pub order : AreInOrder those
  pub each : All (λ s. Contains spans s × (of s.value.pcid ≡ k)) those
  pub all : (s : Span Control) → Contains spans s → of s.value.pcid ≡ k → Contains those s

-- the stays are those of some spans that have the PCID
abbrev pub AreOwn : ℕ → List (Span Control) → List (Span Control) → Type 0
AreOwn pcid spans stays = AreThose (λ q. q) pcid spans stays

-- spans that have each moment, from one up to the walker's number, at which the processor has the
-- PCID
pub record AreSpansUnder (r : Recorded) (v : Walker) (low : ℕ) (spans : List (Span Control)) :
    Type 0 where
  pub order : AreInOrder spans
  pub each : All (IsSteady r v.p) spans
  pub all : (w : ℕ) → low ≤ w → w ≤ v.number → IsUnder r v w → IsWithin spans w

-- the PCIDs of some spans are among these
abbrev pub ArePcids : List (Span Control) → List ℕ → Type 0
ArePcids spans pcids = (s : Span Control) → Contains spans s → Contains pcids s.value.pcid

-- the latest of the moments of some spans, from one moment up to another
abbrev pub IsLatest : List (Span Control) → ℕ → ℕ → Option ℕ → Type 0
IsLatest spans at to latest =
    MatchOption latest ((w : ℕ) → at ≤ w → w ≤ to → IsWithin spans w → ⊥)
    (λ m. (at ≤ m) × (m ≤ to) × IsWithin spans m
    × ((w : ℕ) → at ≤ w → w ≤ to → IsWithin spans w → w ≤ m))
