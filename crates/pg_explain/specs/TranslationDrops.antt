-- Which event had to drop the translation that an access would last have used (Intel SDM, vol. 3,
-- 4.10.4.1).
use Rattle.std.specs.Prelude.{◌≡◌, ℕ, Bool, ◌&&◌, List, Option, Some, None}
use Rattle.pg_entry.specs.declared.Kind.{Kind}
use Rattle.pg_entry.specs.declared.Kind.TheVariants as kinds
use Rattle.pg_entry.specs.Kinds.{kind_of}
use Rattle.pg_event.specs.declared.event.Event.{Event}
use Rattle.pg_event.specs.declared.event.Event.TheVariants.{Write, Access, Assist, MovCr3, Invlpg}
use Rattle.pg_event.specs.declared.event.Event.TheVariants.{Invpcid, MovCr4Pge}
use Rattle.pg_event.specs.Heads.{Head}
use Rattle.pg_event.specs.Invalidation.{translation_key}
use Rattle.pg_event.specs.Values.{control_at}
use Rattle.pg_event.specs.Walk.{Reading}
use Rattle.pg_event.specs.Witness.{translation_survives}
use Rattle.pg_search.specs.declared.last.Last.{Last}
use Rattle.pg_search.specs.Lasts.{IsEndedBy}
use Rattle.pg_search.specs.ReachableTables.{first_or}
use Rattle.pg_explain.specs.Findings.{readings_by, last_of}

-- a translation of the address survives from one moment up to another
abbrev pub translation_stands :
    Head → List Event → ℕ → ℕ → ℕ → ℕ → Bool → ℕ → ℕ → Bool
translation_stands head events p la pcid shift global from to =
    translation_survives head events p (translation_key pcid shift global la) from to

-- the translation that a reading under a PCID makes, where it is of a leaf, survives up to a
-- number, or this event had to drop it
abbrev pub IsDropBy :
    Head → List Event → ℕ → ℕ → ℕ → ℕ → Reading → Kind → Option ℕ → Type 0
IsDropBy head events i p la pcid r (kinds.Leaf frame shift bit) dropped =
    IsEndedBy (translation_stands head events p la pcid shift
    (bit && (control_at head events p r.moment).pge) r.moment) r.moment i dropped
IsDropBy head events i p la pcid r kinds.Absent dropped = dropped ≡ None
IsDropBy head events i p la pcid r kinds.Reserved dropped = dropped ≡ None
IsDropBy head events i p la pcid r (kinds.Table addr) dropped = dropped ≡ None

-- that is so of what some moments read last, under the PCID of the first of them
abbrev pub IsDropAfter : Head → List Event → ℕ → ℕ → ℕ → List ℕ → Option ℕ → Type 0
IsDropAfter head events i p la ws dropped =
    let pcid = (control_at head events p (first_or 0 ws)).pcid in
    let end = last_of (readings_by head events p la ws) in
    IsDropBy head events i p la pcid end (kind_of head.cfg end.level end.value) dropped

-- this event had to drop what an access would have used when it would last have been witnessed
abbrev pub IsDropFor : Head → List Event → ℕ → Event → Option Last → Option ℕ → Type 0
IsDropFor head events i e None dropped = dropped ≡ None
IsDropFor head events i (Write p addr value) (Some last) dropped = dropped ≡ None
IsDropFor head events i (Access p flags la outcome moments) (Some last) dropped =
    IsDropAfter head events i p la last.moments dropped
IsDropFor head events i (Assist p flags la word moments) (Some last) dropped =
    dropped ≡ None
IsDropFor head events i (MovCr3 p operand) (Some last) dropped = dropped ≡ None
IsDropFor head events i (Invlpg p la) (Some last) dropped = dropped ≡ None
IsDropFor head events i (Invpcid p kind pcid la) (Some last) dropped = dropped ≡ None
IsDropFor head events i (MovCr4Pge p on) (Some last) dropped = dropped ≡ None
