-- A timeline for each key.
use Rattle.std.specs.Prelude.{◌≡◌, ℕ, ◌<◌, Bool, if◌then◌else◌, List, [], ◌∷◌, ◌++◌}
use Rattle.std.specs.Map.{lookup}
use Rattle.std.specs.Option.{unwrap_or}
use Rattle.pg_timeline.specs.declared.timeline.Stamp.{Stamp}
use Rattle.pg_timeline.specs.Timelines.{cut_at}

-- the timelines that keys have, and the least moment that a further stamp may have
pub record Keyed (K V : Type 0) : Type 0 where
  pub entries : List (K × List (Stamp V))
  pub next : ℕ

-- every moment is below this one
abbrev pub AreBelow : {V : Type 0} → ℕ → List (Stamp V) → Type 0
AreBelow n [] = Unit {0}
AreBelow n (s ∷ ss) = (s.moment < n) × AreBelow n ss

module _ {K V : Type 0} where
  abbrev pub next_moment : Keyed K V → ℕ
  next_moment t = t.next

  -- the stamps of a key, by what tells keys apart
  abbrev pub stamps_in : (K → K → Bool) → List (K × List (Stamp V)) → K → List (Stamp V)
  stamps_in eq entries k = unwrap_or (lookup (eq k) entries) []

  abbrev pub stamps_at : (K → K → Bool) → Keyed K V → K → List (Stamp V)
  stamps_at eq t k = stamps_in eq t.entries k

  -- every moment of every key is below this one
  pub record EndsBefore (eq : K → K → Bool) (entries : List (K × List (Stamp V))) (next : ℕ) :
      Type 0 where
    pub below : (k : K) → AreBelow next (stamps_in eq entries k)

  -- a key has one more stamp
  pub record IsPushed (eq : K → K → Bool) (old new : List (K × List (Stamp V))) (key : K)
      (stamp : Stamp V) : Type 0 where
    pub at : (k : K) → stamps_in eq new k
        ≡ (if eq key k then stamps_in eq old key ++ stamp ∷ [] else stamps_in eq old k)

  -- each key has its stamps below a moment
  pub record AreCut (eq : K → K → Bool) (old new : List (K × List (Stamp V))) (moment : ℕ) :
      Type 0 where
    pub at : (k : K) → stamps_in eq new k ≡ cut_at moment (stamps_in eq old k)
