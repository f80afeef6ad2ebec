-- Which last readings of a walk witness an event.
use Rattle.std.specs.Prelude.{◌≡◌, ℕ, ◌<◌, ◌≤◌, ◌^◌, max, true, List, Option, Some, None}
use Rattle.pg_entry.specs.declared.Level.{Level}
use Rattle.pg_entry.specs.Kinds.{kind_of}
use Rattle.pg_event.specs.declared.event.Event.{Event}
use Rattle.pg_event.specs.Spelling.{Recorded}
use Rattle.pg_event.specs.Wants.{is_wanted}
use Rattle.pg_event.specs.Witness.{failing_event}
use Rattle.pg_search.specs.Law.{with_moments}
use Rattle.pg_reach.specs.declared.walker.Walker.{Walker}
use Rattle.pg_reach.specs.declared.view.Piece.{Piece}
use Rattle.pg_reach.specs.declared.reach.Reach.{Reach}
use Rattle.pg_reach.specs.Stays.{IsUnder}
use Rattle.pg_reach.specs.Reaching.{entry_of, up_to, IsFresher}
use Rattle.pg_reach.specs.Asking.{want_by}
use Rattle.pg_reach.specs.Given.{GivesBy}

-- the moments that lead to a reach, and a last one, witness the event at a number only where such
-- are found
abbrev pub IsNoWitness :
    Recorded → Walker → Event → ℕ → Reach → ℕ → Option (List ℕ) → Type 0
IsNoWitness r v e n x m found =
    failing_event r.head r.events n (with_moments (up_to m x.latest) e) ≡ None →
    IsFresher v.freshest found (up_to m x.latest)

-- that is so if a piece may be read, is what the event wants and may give its outcome, of reading
-- it last
abbrev pub IsNoEnd :
    Recorded → Walker → Event → Level → Reach → Piece → Option (List ℕ) → Type 0
IsNoEnd r v e level x piece found = (m : ℕ) → piece.read ≡ Some m →
    is_wanted (want_by e) (kind_of r.head.cfg level piece.entry) ≡ true →
    GivesBy r.head.cfg e (kind_of r.head.cfg level piece.entry) →
    IsNoWitness r v e v.number x m found

-- the same entry can be read at a later moment, or at this one, and witnesses the event then, at
-- its number or where that comes earlier at the moment, only where such moments are found
pub record IsRefused (r : Recorded) (v : Walker) (e : Event) (level : Level) (x : Reach)
    (found : Option (List ℕ)) (w : ℕ) : Type 0 where
  pub m : ℕ
  pub later : w ≤ m
  pub within : m ≤ x.to
  pub small : m < 2 ^ 32
  pub under : IsUnder r v m
  pub same : entry_of r v level x.table m ≡ entry_of r v level x.table w
  pub none : IsNoWitness r v e (max m v.number) x m found

-- that is so of each entry that the event wants and that may give its outcome, from one moment up
-- to, not with, another
abbrev pub AreRefused :
    Recorded → Walker → Event → Level → ℕ → ℕ → Reach → Option (List ℕ) → Type 0
AreRefused r v e level since until x found = (w : ℕ) → since ≤ w → w < until → IsUnder r v w →
    is_wanted (want_by e) (kind_of r.head.cfg level (entry_of r v level x.table w)) ≡ true →
    GivesBy r.head.cfg e (kind_of r.head.cfg level (entry_of r v level x.table w)) →
    IsRefused r v e level x found w
