-- Up to which number an event is witnessed by moments before it.
use Rattle.std.specs.Prelude.{◌≡◌, ℕ, ◌<◌, ◌≤◌, ◌&&◌, ◌⊎◌, Bool, true, false, List, Option}
use Rattle.std.specs.Prelude.{Some, None, IfSome}
use Rattle.pg_entry.specs.declared.Kind.{Kind}
use Rattle.pg_entry.specs.declared.Kind.TheVariants as kinds
use Rattle.pg_entry.specs.declared.Level.{Level}
use Rattle.pg_entry.specs.Kinds.{kind_of}
use Rattle.pg_event.specs.declared.event.Event.{Event}
use Rattle.pg_event.specs.Spelling.{Recorded}
use Rattle.pg_event.specs.Values.{control_at}
use Rattle.pg_event.specs.Invalidation.{translation_key}
use Rattle.pg_event.specs.Wants.{is_wanted, uses_last}
use Rattle.pg_event.specs.Witness.{failing_event, translation_survives}
use Rattle.pg_search.specs.Law.{AreWitness, with_moments}
use Rattle.pg_reach.specs.declared.walker.Walker.{Walker}
use Rattle.pg_reach.specs.declared.view.Piece.{Piece}
use Rattle.pg_reach.specs.declared.reach.Reach.{Reach}
use Rattle.pg_reach.specs.Stays.{IsUnder}
use Rattle.pg_reach.specs.Reaching.{entry_of, up_to}
use Rattle.pg_reach.specs.Asking.{want_by, pcid_of}

-- a translation of the address survives from one moment up to another (4.10.4.1)
abbrev pub translation_lasts : Recorded → Walker → ℕ → Bool → ℕ → ℕ → Bool
translation_lasts r v shift global from to =
    translation_survives r.head r.events v.p (translation_key v.pcid shift global v.la) from to

-- a number is no later than the one that was found
abbrev pub IsUpTo : Option ℕ → ℕ → Type 0
IsUpTo None j = ⊥
IsUpTo (Some last) j = j ≤ last

-- some moments witness the event as one with the number that was found, up to this one
abbrev pub HasWitness : Recorded → Event → ℕ → ℕ → Type 0
HasWitness r e most last = (last ≤ most) × ((ws : List ℕ) × AreWitness r.head r.events last e ws)

-- some moments under the walker's PCID witness the event as the one with a number, up to the
-- walker's
pub record HasWitnessUnder (r : Recorded) (v : Walker) (e : Event) (last : ℕ) : Type 0 where
  pub within : last ≤ v.number
  pub moments : List ℕ
  pub witness : AreWitness r.head r.events last e moments
  pub under : pcid_of r v moments ≡ v.pcid

-- a number is that which was found before, or such moments witness the event there
abbrev pub IsFoundAfter : Recorded → Walker → Event → Option ℕ → Option ℕ → Type 0
IsFoundAfter r v e found last = IfSome last (λ n. (found ≡ Some n) ⊎ HasWitnessUnder r v e n)

-- the moments that lead to a reach, and a last one, witness the event at a number from that one up
-- to the walker's only up to the one that was found
abbrev pub IsPassedAt : Recorded → Walker → Event → Reach → ℕ → Option ℕ → Type 0
IsPassedAt r v e x m last = (j : ℕ) → m ≤ j → j ≤ v.number →
    failing_event r.head r.events j (with_moments (up_to m x.latest) e) ≡ None → IsUpTo last j

-- that is so if a piece may be read and is what the event wants, of reading it last
abbrev pub IsPassedBy :
    Recorded → Walker → Event → Level → Reach → Piece → Option ℕ → Type 0
IsPassedBy r v e level x piece last = (m : ℕ) → piece.read ≡ Some m →
    is_wanted (want_by e) (kind_of r.head.cfg level piece.entry) ≡ true →
    IsPassedAt r v e x m last

-- a translation that was read at a moment may be used at a number (4.10.2.4, 4.10.4.1)
abbrev pub MayUse : Recorded → Walker → ℕ → Bool → ℕ → ℕ → Type 0
MayUse r v shift global m j = (translation_lasts r v shift global m j ≡ true)
    × (IsUnder r v j ⊎ (global ≡ true))

-- what was read at a moment may last be used at a number: a translation, where a page is wanted,
-- and all else at the moment alone
abbrev pub IsLastUse : Recorded → Walker → Event → Kind → ℕ → ℕ → Type 0
IsLastUse r v e (kinds.Leaf frame shift bit) m n =
    let global = bit && (control_at r.head r.events v.p m).pge in
    (uses_last (want_by e) ≡ true → MayUse r v shift global m n
    × ((j : ℕ) → m ≤ j → j ≤ v.number → MayUse r v shift global m j → j ≤ n))
    × (uses_last (want_by e) ≡ false → n ≡ m)
IsLastUse r v e kinds.Absent m n = n ≡ m
IsLastUse r v e kinds.Reserved m n = n ≡ m
IsLastUse r v e (kinds.Table addr) m n = n ≡ m

-- a walk may read the piece in the table of a reach at a moment
pub record IsReadIn (r : Recorded) (v : Walker) (level : Level) (x : Reach) (piece : Piece)
    (m : ℕ) : Type 0 where
  pub from : x.from ≤ m
  pub to : m ≤ x.to
  pub before : m ≤ v.number
  pub under : IsUnder r v m
  pub entry : entry_of r v level x.table m ≡ piece.entry

-- the same entry can be read at a later moment, or at this one, of which that is so
pub record IsPassed (r : Recorded) (v : Walker) (e : Event) (level : Level) (x : Reach)
    (last : Option ℕ) (w : ℕ) : Type 0 where
  pub m : ℕ
  pub later : w ≤ m
  pub within : m ≤ x.to
  pub before : m ≤ v.number
  pub under : IsUnder r v m
  pub same : entry_of r v level x.table m ≡ entry_of r v level x.table w
  pub none : IsPassedAt r v e x m last

-- that is so of each entry that the event wants, from one moment up to, not with, another
abbrev pub ArePassed :
    Recorded → Walker → Event → Level → ℕ → ℕ → Reach → Option ℕ → Type 0
ArePassed r v e level since until x last = (w : ℕ) → since ≤ w → w < until → IsUnder r v w →
    is_wanted (want_by e) (kind_of r.head.cfg level (entry_of r v level x.table w)) ≡ true →
    IsPassed r v e level x last w

-- moments under the PCID witness the event at a number up to the walker's only up to the one that
-- was found
abbrev pub AreUpTo : Recorded → Walker → Event → Option ℕ → Type 0
AreUpTo r v e last = (j : ℕ) → j ≤ v.number → (ws : List ℕ) →
    AreWitness r.head r.events j e ws → pcid_of r v ws ≡ v.pcid → IsUpTo last j
