-- The first event that takes a cached entry out.
use Rattle.std.specs.Prelude.{ℕ, zero, suc, ◌+◌, ◌-◌, Bool, if◌then◌else◌, List}
use Rattle.std.specs.Prelude.{Option, Some, None, slice_get}
use Rattle.pg_entry.specs.declared.Rules.{Rules}
use Rattle.pg_entry.specs.Kinds.{IsPageShift}
use Rattle.pg_event.specs.declared.event.Event.{Event}
use Rattle.pg_event.specs.declared.control.Control.{Control}
use Rattle.pg_event.specs.Heads.{Head}
use Rattle.pg_event.specs.Invalidation.{must_drop_structure, must_drop_translation}
use Rattle.pg_event.specs.Values.{control_at}
use Rattle.pg_event.specs.Witness.{takes_out}
use Rattle.pg_explain.specs.declared.dropped.CacheKey.{CacheKey}
use Rattle.pg_explain.specs.declared.dropped.CacheKey.TheVariants.{Structure, Translation}

-- the first of so many numbers, from this one on, of which the test holds
abbrev pub first_from : (ℕ → Bool) → ℕ → ℕ → Option ℕ
first_from test from zero = None
first_from test from (suc n) = if test from then Some from else first_from test (from + 1) n

-- whether an event must take an entry out of the caches of its processor, which is held to these
-- rules
abbrev pub must_drop : Rules → CacheKey → Control → Event → Bool
must_drop rules (Structure key) c e = must_drop_structure rules c e key
must_drop rules (Translation key) c e = must_drop_translation rules c e key

abbrev pub is_dropped_at : Head → List Event → ℕ → CacheKey → ℕ → Bool
is_dropped_at head events p key j =
    takes_out p (must_drop head.cfg.rules key) (control_at head events p j) (slice_get events j)

-- the first event, from one moment up to, not with, another, by which p had to drop an entry
abbrev pub first_drop : Head → List Event → ℕ → CacheKey → ℕ → ℕ → Option ℕ
first_drop head events p key from to =
    first_from (is_dropped_at head events p key) from (to - from)

-- a key that an entry may have
abbrev pub IsPageKey : CacheKey → Type 0
IsPageKey (Structure key) = Unit {0}
IsPageKey (Translation key) = IsPageShift key.shift
