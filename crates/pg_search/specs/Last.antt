-- When an event would last have been witnessed, had it come earlier.
use Rattle.std.specs.Prelude.{◌≡◌, ℕ, ◌+◌, ◌<◌, ◌≤◌, true, List, Option, Some, None}
use Rattle.std.specs.Prelude.{slice_get}
use Rattle.pg_event.specs.declared.event.Event.{Event}
use Rattle.pg_event.specs.Form.{processor_of}
use Rattle.pg_event.specs.Heads.{Head}
use Rattle.pg_event.specs.Values.{control_at}
use Rattle.pg_search.specs.declared.last.Last.{Last}
use Rattle.pg_search.specs.Freshness.{is_as_fresh}
use Rattle.pg_search.specs.Law.{AreWitness}
use Rattle.pg_search.specs.ReachableTables.{first_or}

-- no moments witness an event as any event from one number up to, not with, another
abbrev pub NoneWitness : Head → List Event → Event → ℕ → ℕ → Type 0
NoneWitness head events e from to =
    (j : ℕ) → from ≤ j → j < to → (ws : List ℕ) → AreWitness head events j e ws → ⊥

-- the PCID that the processor of an event has at the first of some moments: what they read is
-- cached under it (4.10.2, 4.10.3)
abbrev pub pcid_by : Head → List Event → Event → List ℕ → ℕ
pcid_by head events e ws = (control_at head events (processor_of e) (first_or 0 ws)).pcid

-- it is the PCID that the processor has at a number
abbrev pub AreOwn : Head → List Event → ℕ → Event → List ℕ → Type 0
AreOwn head events i e ws =
    pcid_by head events e ws ≡ (control_at head events (processor_of e) i).pcid

-- some moments under the PCID that the processor has at number i witness an event as event j
abbrev pub HasOwn : Head → List Event → ℕ → Event → ℕ → Type 0
HasOwn head events i e j =
    (ws : List ℕ) × AreWitness head events j e ws × AreOwn head events i e ws

-- no such moments witness it as any event from one number up to, not with, another
abbrev pub NoneOwn : Head → List Event → ℕ → Event → ℕ → ℕ → Type 0
NoneOwn head events i e from to = (j : ℕ) → from ≤ j → j < to → HasOwn head events i e j → ⊥

-- it is the last number at which moments under the event's own PCID witness it, or where there is
-- none, at which moments under another do, which is told
abbrev pub IsLastUnder : Head → List Event → ℕ → Event → Last → Option ℕ → Type 0
IsLastUnder head events i e last None =
    HasOwn head events i e last.number × NoneOwn head events i e (last.number + 1) i
IsLastUnder head events i e last (Some pcid) =
    (pcid ≡ pcid_by head events e last.moments) × NoneOwn head events i e 0 i
    × NoneWitness head events e (last.number + 1) i

-- the moments witness event e at an earlier number, none that do are fresher, and none under its
-- own PCID, or under any, witness it at a number between
pub record IsLastOf (head : Head) (events : List Event) (i : ℕ) (e : Event) (last : Last) :
    Type 0 where
  pub before : last.number < i
  pub witness : AreWitness head events last.number e last.moments
  pub freshest : (us : List ℕ) → AreWitness head events last.number e us →
      is_as_fresh last.moments us ≡ true
  pub under : IsLastUnder head events i e last last.other

-- event i would last have been witnessed there, by these moments
abbrev pub IsLast : Head → List Event → ℕ → Last → Type 0
IsLast head events i last =
    (e : Event) × (slice_get events i ≡ Some e) × IsLastOf head events i e last

-- event i would have been witnessed at no earlier number
abbrev pub HasNoLast : Head → List Event → ℕ → Type 0
HasNoLast head events i =
    (e : Event) × (slice_get events i ≡ Some e) × NoneWitness head events e 0 i
