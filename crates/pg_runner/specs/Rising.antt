-- The word is the last pair stored, and no reader has read more.
use Rattle.std.specs.Prelude.{◌≡◌, ℕ, ◌+◌, ◌*◌, ◌<◌, ◌≤◌, ◌&&◌, Bool, true, false, []}
use Rattle.std.specs.Prelude.{◌∷◌, nat_lt, not}
use mathlib.Core.Option.{some}
use lib.ListN.{get_elem?}
use Rattle.atomic_table.specs.Table.{State, Step, Me}
use Rattle.pg_runner.specs.declared.counts.Counts.{Counts}
use Rattle.pg_runner.specs.declared.seen.Seen.{Seen}

abbrev pub seen : Bool → ℕ → ℕ → Seen
seen s e g = record { stores = s; events = e; segments = g; agrees = true }

-- the one has seen no more than the other
abbrev pub is_below : Seen → Seen → Bool
is_below w v = not (nat_lt v.events w.events) && not (nat_lt v.segments w.segments)

abbrev pub packed : ℕ → ℕ → ℕ
packed events segments = events * 4294967296 + segments

-- a pair that a word can hold
abbrev pub IsPacked : ℕ → ℕ → Type 0
IsPacked events segments = (events < 4294967296) × (segments ≤ events)

-- one seat stores, and it knows the pair in the word; no other knows more
pub record IsRising (s : State (Unit {0}) Seen) (events segments : ℕ) : Type 0 where
  pub pair : IsPacked events segments
  pub word : s.words ≡ packed events segments ∷ []
  pub below : (id : ℕ) (v : Seen) → get_elem? s.views id ≡ some v →
      (v.events ≤ events) × (v.segments ≤ segments)
  pub agree : (id : ℕ) (v : Seen) → get_elem? s.views id ≡ some v → v.agrees ≡ true
  pub stores : (id : ℕ) (v : Seen) → get_elem? s.views id ≡ some v → v.stores ≡ true →
      (id ≡ 0) × (v.events ≡ events) × (v.segments ≡ segments)

abbrev pub Rises : State (Unit {0}) Seen → Type 0
Rises s = (events : ℕ) × (segments : ℕ) × IsRising s events segments

-- what a seat of a word knows
abbrev pub Knows : Type 0
Knows = Me (Unit {0}) Seen

-- the publisher knows what it stored
abbrev pub Stored : Step (Unit {0}) → Knows → ℕ → Knows → Type 0
Stored s v n w =
    (w.1 ≡ v.1) × (w.0 ≡ seen v.0.stores w.0.events w.0.segments)
    × (packed w.0.events w.0.segments ≡ n) × IsPacked w.0.events w.0.segments

-- a reader sees a pair that was stored, and no less than it had seen
abbrev pub Loaded : Step (Unit {0}) → Knows → ℕ → Knows → Type 0
Loaded s v n w =
    (w.1 ≡ v.1) × (w.0.stores ≡ v.0.stores) × (packed w.0.events w.0.segments ≡ n)
    × IsPacked w.0.events w.0.segments
    × (v.0.events ≤ w.0.events) × (v.0.segments ≤ w.0.segments)

abbrev pub Confirmed : Step (Unit {0}) → Knows → ℕ → Knows → Type 0
Confirmed s v n w = (w.1 ≡ v.1) × (w.0 ≡ record v.0 { agrees = true }) × (v.0.agrees ≡ true)

-- what a publisher keeps: it knows the pair that it stored last
pub record IsPublisher (me : Knows) (last : Counts) : Type 0 where
  pub no_slot : me.1 ≡ []
  pub knows : me.0 ≡ seen true last.events last.segments
  pub pair : IsPacked last.events last.segments

-- and a reader
pub record IsReader (me : Knows) : Type 0 where
  pub no_slot : me.1 ≡ []
  pub reads : me.0.stores ≡ false
