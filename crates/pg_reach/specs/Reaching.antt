-- To which tables a walk can come, and when (Intel SDM, vol. 3, 4.10.3).
use Rattle.std.specs.Prelude.{◌≡◌, ℕ, ◌+◌, ◌<◌, ◌≤◌, ◌^◌, ◌-◌, min, max, Bool, true, false, ◌&&◌}
use Rattle.std.specs.Prelude.{List, [], ◌∷◌, ◌++◌, map, Option, Some, None, MatchOption, length}
use Rattle.std.specs.List.{All, Contains}
use Rattle.pg_entry.specs.declared.Level.{Level}
use Rattle.pg_entry.specs.declared.Level.TheVariants.{Four, Three, Two, One}
use Rattle.pg_entry.specs.Kinds.{kind_of}
use Rattle.pg_event.specs.declared.control.Control.{Control}
use Rattle.pg_event.specs.declared.walk.Parent.{Parent}
use Rattle.pg_event.specs.Spelling.{Recorded}
use Rattle.pg_event.specs.Values.{control_at}
use Rattle.pg_event.specs.Invalidation.{structure_key}
use Rattle.pg_event.specs.Walk.{below, root_of}
use Rattle.pg_event.specs.Wants.{is_table}
use Rattle.pg_event.specs.Witness.{structure_survives}
use Rattle.pg_machine.specs.Machine.{may_cache}
use Rattle.pg_timeline.specs.declared.timeline.Span.{Span}
use Rattle.pg_search.specs.Freshness.{is_as_fresh}
use Rattle.pg_search.specs.ReachableTables as ways
use Rattle.pg_search.specs.ReachableTables.{entry_at, table_by, IsWayFromRoot}
use Rattle.pg_search.specs.Lasts.{IsEnd}
use Rattle.pg_reach.specs.declared.walker.Walker.{Walker}
use Rattle.pg_reach.specs.declared.view.Piece.{Piece}
use Rattle.pg_reach.specs.declared.reach.Reach.{Reach}
use Rattle.pg_reach.specs.Stays.{IsUnder}

-- the entry that a table has for the address at a moment (4.5)
abbrev pub entry_of : Recorded → Walker → Level → Parent → ℕ → ℕ
entry_of r v level table w = entry_at r.events v.la w level table

-- the structure entry that a level gives survives from one moment up to another (4.10.4.1)
abbrev pub structure_lasts : Recorded → Walker → Level → ℕ → ℕ → Bool
structure_lasts r v level from to =
    structure_survives r.head r.events v.p (structure_key v.pcid level v.la) from to

-- what is said of the last moment, from one up to another, at which a walk may read
abbrev pub IsLastRead : Recorded → Walker → ℕ → ℕ → Option ℕ → Type 0
IsLastRead r v at to read =
    MatchOption read ((w : ℕ) → at ≤ w → w ≤ to → IsUnder r v w → ⊥)
    (λ m. (at ≤ m) × (m ≤ to) × IsUnder r v m
    × ((w : ℕ) → at ≤ w → w ≤ to → IsUnder r v w → w ≤ m))

-- a table has one entry for the address from a moment on, up to this one
pub record IsPiece (r : Recorded) (v : Walker) (level : Level) (table : Parent) (at last : ℕ)
    (piece : Piece) : Type 0 where
  pub low : at ≤ piece.to
  pub high : piece.to ≤ last
  pub same : (w : ℕ) → at ≤ w → w ≤ piece.to → entry_of r v level table w ≡ piece.entry
  pub read : IsLastRead r v at piece.to piece.read

-- the moments, where what is read later than one is read at this one
abbrev pub up_to : ℕ → List ℕ → List ℕ
up_to w ws = map (min w) ws

-- the processor and address of a walk, under its PCID
abbrev pub way_of : Walker → ways.Walker
way_of v = record { p = v.p; la = v.la; pcid = v.pcid }

-- how many readings lead to a table of a level
abbrev pub steps_to : Level → ℕ
steps_to Four = 0
steps_to Three = 1
steps_to Two = 2
steps_to One = 3

-- some moments lead to a table at a level, and may be followed by this one: all of them are these
abbrev pub ComesBy : Recorded → Walker → Level → Parent → ℕ → List ℕ → Type 0
ComesBy r v level table w moments = (ws : List ℕ) × (moments ≡ ws ++ w ∷ [])
    × IsWayFromRoot r.head r.events (way_of v) w ws level table

-- moments with the greatest of all after them, which stands for the one that comes next
abbrev pub AreOpen : List ℕ → Type 0
AreOpen latest = (ws : List ℕ) × (latest ≡ ws ++ (2 ^ 32 - 1) ∷ [])

-- a walk may read in the table at each moment from one up to another at which the processor has the
-- PCID, by the latest moments that are not later
pub record IsReach (r : Recorded) (v : Walker) (level : Level) (x : Reach) : Type 0 where
  pub within : x.table.table < 2 ^ 52
  pub few : length x.latest ≤ steps_to level + 1
  pub next : AreOpen x.latest
  pub way : (w : ℕ) → x.from ≤ w → w ≤ x.to → IsUnder r v w →
      ComesBy r v level x.table w (up_to w x.latest)

-- moments are as many as others, and none is later than that in its place
abbrev pub AreWithin : List ℕ → List ℕ → Type 0
AreWithin [] [] = Unit {0}
AreWithin [] (u ∷ us) = ⊥
AreWithin (w ∷ ws) [] = ⊥
AreWithin (w ∷ ws) (u ∷ us) = (w ≤ u) × AreWithin ws us

-- where the freshest moments are asked for, those of a reach are as fresh as these, of which the
-- last is that of the reading in its table
abbrev pub AreFresh : Bool → Reach → List ℕ → ℕ → Type 0
AreFresh freshest x ws w = freshest ≡ true → is_as_fresh (up_to w x.latest) (ws ++ w ∷ []) ≡ true

-- moments have been found: any, or where the freshest are asked for, such as are as fresh as these
abbrev pub IsFresher : Bool → Option (List ℕ) → List ℕ → Type 0
IsFresher freshest None ws = ⊥
IsFresher freshest (Some found) ws = freshest ≡ true → is_as_fresh found ws ≡ true

-- a reach has the table at a moment, to which these moments lead
pub record Has (freshest : Bool) (at : Parent) (w : ℕ) (ws : List ℕ) (x : Reach) : Type 0 where
  pub table : x.table ≡ at
  pub from : x.from ≤ w
  pub to : w ≤ x.to
  pub fresh : AreFresh freshest x ws w

-- one of the reaches has the table at a moment
abbrev pub AreAt : Bool → List Reach → Parent → ℕ → List ℕ → Type 0
AreAt freshest xs table w ws = (x : Reach) × Contains xs x × Has freshest table w ws x

-- reading in a table at a moment leads to another, and its structure entry survives to a later one
pub record LeadsOn (r : Recorded) (v : Walker) (level : Level) (table : Parent) (w y : ℕ) :
    Type 0 where
  pub under : IsUnder r v w
  pub is_table : is_table (kind_of r.head.cfg level (entry_of r v level table w)) ≡ true
  pub cached : may_cache r.head.version (entry_of r v level table w) ≡ true
  pub order : w ≤ y
  pub small : y < 2 ^ 32
  pub lasts : structure_lasts r v level w y ≡ true

-- the table that reading in one at a moment leads to
abbrev pub next_at : Recorded → Walker → Level → Parent → ℕ → Parent
next_at r v level table w = table_by r.head.cfg.m table (entry_of r v level table w)

-- what some reaches have others have
abbrev pub AreKept : Bool → List Reach → List Reach → Type 0
AreKept freshest olds news = (table : Parent) (w : ℕ) (ws : List ℕ) →
    AreAt freshest olds table w ws → AreAt freshest news table w ws

-- some reaches have each table that reading in the table of another, from one moment up to, not
-- with, another, leads to
abbrev pub AreNext : Recorded → Walker → Level → ℕ → ℕ → List Reach → Reach → Type 0
AreNext r v level low until nexts x = (w y : ℕ) (ws : List ℕ) → low ≤ w → w < until →
    LeadsOn r v level x.table w y → AreFresh v.freshest x ws w →
    AreAt v.freshest nexts (next_at r v level x.table w) y (ws ++ w ∷ [])

-- these are added, and nothing is lost
pub record IsFilled (r : Recorded) (v : Walker) (level : Level) (low until : ℕ) (x : Reach)
    (olds news : List Reach) : Type 0 where
  pub each : All (IsReach r v (below level)) olds → All (IsReach r v (below level)) news
  pub kept : AreKept v.freshest olds news
  pub next : AreNext r v level low until news x

-- a reach may stand for another at each moment that both have
pub record Stands (freshest : Bool) (x y : Reach) : Type 0 where
  pub table : y.table ≡ x.table
  pub fresh : freshest ≡ true → AreWithin x.latest y.latest

-- and has each of its moments
pub record Stretches (freshest : Bool) (x y : Reach) : Type 0 where
  pub stands : Stands freshest x y
  pub from : y.from ≤ x.from
  pub to : x.to ≤ y.to

-- one of the reaches may stand for another at each of its moments
abbrev pub IsCovered : Bool → List Reach → Reach → Type 0
IsCovered freshest xs x = (y : Reach) × Contains xs y × Stretches freshest x y

-- a reach up to where another begins, which stands for it from there on
pub record IsCut (freshest : Bool) (x y cut : Reach) : Type 0 where
  pub stands : Stands freshest x y
  pub is : cut ≡ record x { to = cut.to }
  pub before : cut.to + 1 ≡ y.from
  pub less : cut.to ≤ x.to
  pub to : x.to ≤ y.to

-- with one reach more they have what they had
pub record HasRoom (freshest : Bool) (olds news : List Reach) (x : Reach) : Type 0 where
  pub each : (r : Recorded) (v : Walker) (level : Level) →
      All (IsReach r v level) olds → All (IsReach r v level) news
  pub kept : AreKept freshest olds (news ++ x ∷ [])

-- with one reach more, or with those that have what it has
pub record IsAdded (freshest : Bool) (olds news : List Reach) (x : Reach) : Type 0 where
  pub each : (r : Recorded) (v : Walker) (level : Level) → IsReach r v level x →
      All (IsReach r v level) olds → All (IsReach r v level) news
  pub kept : AreKept freshest olds news
  pub new : (table : Parent) (w : ℕ) (ws : List ℕ) → Has freshest table w ws x →
      AreAt freshest news table w ws

-- the reach that an entry in the table of another gives, which may be read from a moment on and
-- last at `read`
pub record IsNextOf (r : Recorded) (v : Walker) (level : Level) (x : Reach) (entry start read : ℕ)
    (y : Reach) : Type 0 where
  pub is_table : is_table (kind_of r.head.cfg level entry) ≡ true
  pub cached : may_cache r.head.version entry ≡ true
  pub from : y.from ≡ start
  pub small : y.to < 2 ^ 32
  pub to : IsEnd (structure_lasts r v level read) read y.to
  pub table : y.table ≡ table_by r.head.cfg.m x.table entry
  pub within : y.table.table < 2 ^ 52
  pub latest : y.latest ≡ up_to read x.latest ++ (2 ^ 32 - 1) ∷ []

abbrev pub IsNextReach :
    Recorded → Walker → Level → Reach → ℕ → ℕ → ℕ → Option Reach → Type 0
IsNextReach r v level x entry start read next =
    MatchOption next
    ((is_table (kind_of r.head.cfg level entry) && may_cache r.head.version entry) ≡ false)
    (IsNextOf r v level x entry start read)

-- reaches at the level below one have each table that reading from a moment on in those of others
-- leads to
pub record AreBelow (r : Recorded) (v : Walker) (level : Level) (low : ℕ) (above nexts : List Reach)
    : Type 0 where
  pub each : All (IsReach r v (below level)) nexts
  pub next : (x : Reach) → Contains above x →
      AreNext r v level (max x.from low) (min x.to v.number + 1) nexts x

-- the root table, at the moments of a stay
abbrev pub root_reach : Span Control → Reach
root_reach s = record {
  from = s.from;
  to = s.to;
  table = root_of s.value;
  latest = (2 ^ 32 - 1) ∷ [];
}

-- reaches have the root at each moment of some stays
pub record AreRootsOf (r : Recorded) (v : Walker) (stays : List (Span Control))
    (roots : List Reach) : Type 0 where
  pub each : All (IsReach r v Four) roots
  pub all : (s : Span Control) → Contains stays s → (w : ℕ) → s.from ≤ w → w ≤ s.to →
      AreAt v.freshest roots (root_of s.value) w []

-- reaches have the root at each moment, from one up to another, at which the processor has the PCID
pub record AreRoots (r : Recorded) (v : Walker) (low : ℕ) (roots : List Reach) : Type 0 where
  pub each : All (IsReach r v Four) roots
  pub all : (w : ℕ) → low ≤ w → w ≤ v.number → IsUnder r v w →
      AreAt v.freshest roots (root_of (control_at r.head r.events v.p w)) w []
