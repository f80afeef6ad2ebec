-- What an event asks of a walk.
use Rattle.std.specs.Prelude.{◌≡◌, ℕ, ◌+◌, ◌≤◌, ◌⊎◌, Bool, true, false, List, [], ◌∷◌}
use Rattle.std.specs.Prelude.{Option, Some, None}
use Rattle.pg_entry.specs.Kinds.{IsPageShift}
use Rattle.pg_event.specs.declared.event.Event.{Event}
use Rattle.pg_event.specs.declared.event.Event.TheVariants.{Write, Access, Assist, MovCr3, Invlpg}
use Rattle.pg_event.specs.declared.event.Event.TheVariants.{Invpcid, MovCr4Pge}
use Rattle.pg_event.specs.declared.event.Want.{Want}
use Rattle.pg_event.specs.declared.event.Want.TheVariants as wants
use Rattle.pg_event.specs.Spelling.{Recorded}
use Rattle.pg_event.specs.Values.{control_at}
use Rattle.pg_event.specs.Wants.{want_of, uses_last}
use Rattle.pg_search.specs.ReachableTables.{first_or}
use Rattle.pg_search.specs.Law.{AreWitness, names_moments}
use Rattle.pg_reach.specs.declared.walker.Walker.{Walker}
use Rattle.pg_reach.specs.Bounds.{translation_up_to}
use Rattle.pg_reach.specs.Reaching.{IsFresher}

-- what it wants of the entry that is read last, where it names moments
abbrev pub want_by : Event → Want
want_by (Access p flags la outcome moments) = want_of outcome
want_by (Assist p flags la word moments) = wants.Present
want_by (Write p addr value) = wants.Present
want_by (MovCr3 p operand) = wants.Present
want_by (Invlpg p la) = wants.Present
want_by (Invpcid p kind pcid la) = wants.Present
want_by (MovCr4Pge p on) = wants.Present

-- the processor and the address of the event are the walker's
abbrev pub Asks : Walker → Event → Type 0
Asks v (Access p flags la outcome moments) = (v.p ≡ p) × (v.la ≡ la)
Asks v (Assist p flags la word moments) = (v.p ≡ p) × (v.la ≡ la)
Asks v (Write p addr value) = ⊥
Asks v (MovCr3 p operand) = ⊥
Asks v (Invlpg p la) = ⊥
Asks v (Invpcid p kind pcid la) = ⊥
Asks v (MovCr4Pge p on) = ⊥

-- the last of some moments
abbrev pub last_moment : List ℕ → ℕ
last_moment [] = 0
last_moment (w ∷ []) = w
last_moment (w ∷ x ∷ xs) = last_moment (x ∷ xs)

-- the PCID that the processor has at the first of some moments
abbrev pub pcid_of : Recorded → Walker → List ℕ → ℕ
pcid_of r v ws = (control_at r.head r.events v.p (first_or 0 ws)).pcid

-- moments under the PCID, of which the last is not before this one, witness the event only where
-- such are found
abbrev pub AreUnder : Recorded → Walker → ℕ → Event → Option (List ℕ) → Type 0
AreUnder r v since e found = (ws : List ℕ) → AreWitness r.head r.events v.number e ws →
    pcid_of r v ws ≡ v.pcid → since ≤ last_moment ws → IsFresher v.freshest found ws

-- a translation of some page size survives from the last of the moments up to the event (4.10.4.1)
abbrev pub LastsBy : Recorded → Walker → Bool → List ℕ → Type 0
LastsBy r v global ws = (shift : ℕ) × IsPageShift shift
    × (translation_up_to r v shift global (last_moment ws) ≡ true)

-- the last of the moments is that of the event, or a page is wanted whose translation, of one PCID
-- alone, survives up to the event
abbrev pub EndsLate : Recorded → Walker → Event → List ℕ → Type 0
EndsLate r v e ws =
    (last_moment ws ≡ v.number) ⊎ ((uses_last (want_by e) ≡ true) × LastsBy r v false ws)

-- moments under the PCID that end so witness the event only where such are found
abbrev pub AreLate : Recorded → Walker → Event → Option (List ℕ) → Type 0
AreLate r v e found = (ws : List ℕ) → AreWitness r.head r.events v.number e ws →
    pcid_of r v ws ≡ v.pcid → EndsLate r v e ws → IsFresher v.freshest found ws

-- moments under the PCID that make a global translation witness the event only where such are found
abbrev pub AreGlobal : Recorded → Walker → Event → Option (List ℕ) → Type 0
AreGlobal r v e found = (ws : List ℕ) → AreWitness r.head r.events v.number e ws →
    pcid_of r v ws ≡ v.pcid → LastsBy r v true ws → IsFresher v.freshest found ws

-- the same walker under another PCID
abbrev pub under : Walker → ℕ → Walker
under v pcid = record v { pcid = pcid }

-- the walker's PCID is the one that its processor has one number later
abbrev pub IsAtNext : Recorded → Walker → Type 0
IsAtNext r v = (control_at r.head r.events v.p (v.number + 1)).pcid ≡ v.pcid

-- the processor and the address of an event that names moments
abbrev pub IsWalkOf : Event → Option (ℕ × ℕ) → Type 0
IsWalkOf e None = names_moments e ≡ false
IsWalkOf e (Some walk) = (pcid number : ℕ) (freshest : Bool) →
    Asks (record {
      p = walk.0;
      la = walk.1;
      pcid = pcid;
      number = number;
      freshest = freshest;
    }) e
