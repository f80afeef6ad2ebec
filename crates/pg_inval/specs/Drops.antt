-- The events of a run that may drop cached entries, and which entries they drop.
use Rattle.std.specs.Prelude.{◌≡◌, ℕ, ◌+◌, ◌≤◌, Bool, false, not, ◌&&◌, ◌||◌}
use Rattle.std.specs.Prelude.{◌==◌, nat_lt, nat_le, min, List, length}
use Rattle.pg_entry.specs.declared.Rules.{Rules}
use Rattle.pg_entry.specs.declared.Level.{Level}
use Rattle.pg_entry.specs.declared.Level.TheVariants.{Four, Three, Two, One}
use Rattle.pg_entry.specs.Kinds.{IsPageShift}
use Rattle.pg_event.specs.declared.event.Event.{Event}
use Rattle.pg_event.specs.declared.control.Control.{Control}
use Rattle.pg_event.specs.declared.keys.StructureKey.{StructureKey}
use Rattle.pg_event.specs.declared.keys.TranslationKey.{TranslationKey}
use Rattle.pg_event.specs.Heads.{Head}
use Rattle.pg_event.specs.Form.{processor_of}
use Rattle.pg_event.specs.Invalidation.{must_drop_structure, must_drop_translation}
use Rattle.pg_event.specs.Witness.{survives}
use Rattle.pg_inval.specs.declared.key.DropKey.{DropKey}
use Rattle.pg_inval.specs.Keys.{structure_keys, translation_keys}
use Rattle.pg_inval.specs.Lists.{Log, has_between}

-- an entry of a cache, by its key
pub data CacheEntry : Type 0 where
  Structure : StructureKey → CacheEntry
  Translation : TranslationKey → CacheEntry

-- the levels whose entries refer to tables
abbrev pub IsTableLevel : Level → Type 0
IsTableLevel Four = Unit {0}
IsTableLevel Three = Unit {0}
IsTableLevel Two = Unit {0}
IsTableLevel One = ⊥

-- entries that a processor may have
abbrev pub MayBeCached : CacheEntry → Type 0
MayBeCached (Structure key) = IsTableLevel key.level
MayBeCached (Translation key) = IsPageShift key.shift

-- whether an event must drop an entry of its processor, which is held to these rules and has these
-- control registers before it
abbrev pub must_drop : Rules → CacheEntry → Control → Event → Bool
must_drop rules (Structure key) c e = must_drop_structure rules c e key
must_drop rules (Translation key) c e = must_drop_translation rules c e key

-- an event drops nothing under these rules, with these control registers before it
abbrev pub DropsNothing : Rules → Control → Event → Type 0
DropsNothing rules c e = (entry : CacheEntry) → must_drop rules entry c e ≡ false

-- whether the event with this number, and with these control registers of its processor before it,
-- is of p, from one moment up to, not with, another, and must drop an entry
abbrev pub drops_between : Rules → ℕ → Event → Control → ℕ → CacheEntry → ℕ → ℕ → Bool
drops_between rules moment e before p entry from to =
    nat_le from moment && nat_lt moment to && processor_of e == p && must_drop rules entry before e

-- by what an entry of p is dropped
abbrev pub keys_of : ℕ → CacheEntry → List DropKey
keys_of p (Structure key) = structure_keys p key
keys_of p (Translation key) = translation_keys p key

-- whether p had to drop an entry from one moment up to, not with, another
abbrev pub is_dropped : Log → ℕ → CacheEntry → ℕ → ℕ → Bool
is_dropped drops p entry from to = has_between drops.entries (keys_of p entry) from to

-- the least moment that a further event may have
abbrev pub next_moment : Log → ℕ
next_moment drops = drops.next

-- one more event is known, with the rules that its processor is held to, and with the control
-- registers of its processor before it
pub record IsNoted (rules : Rules) (old new : Log) (moment : ℕ) (event : Event)
    (before : Control) : Type 0 where
  pub next : next_moment new ≡ moment + 1
  pub drops : (p : ℕ) (entry : CacheEntry) (from to : ℕ) → MayBeCached entry →
      is_dropped new p entry from to
      ≡ (is_dropped old p entry from to || drops_between rules moment event before p entry from to)

-- the same drops are known
pub record IsSame (old new : Log) : Type 0 where
  pub next : next_moment new ≡ next_moment old
  pub drops : (p : ℕ) (entry : CacheEntry) (from to : ℕ) → MayBeCached entry →
      is_dropped new p entry from to ≡ is_dropped old p entry from to

-- what is known of the moments up to one
pub record IsCutAt (old new : Log) (moment : ℕ) : Type 0 where
  pub next : next_moment new ≤ min (next_moment old) moment
  pub drops : (p : ℕ) (entry : CacheEntry) (from to : ℕ) → MayBeCached entry →
      is_dropped new p entry from to ≡ is_dropped old p entry from (min to moment)

-- what is dropped is what the events of a run drop
pub record StandsFor (d : Log) (head : Head) (events : List Event) : Type 0 where
  pub next : next_moment d ≤ length events
  pub drops : (p : ℕ) (entry : CacheEntry) (from to : ℕ) → MayBeCached entry →
      is_dropped d p entry from to
      ≡ not (survives head events p (must_drop head.cfg.rules entry) from to)
