-- What an invalidation leaves, by the places where entries stand.
use Rattle.std.specs.Prelude.{ℕ, Bool, false, ◌&&◌, ◌==◌, if◌then◌else◌}
use Rattle.pg_entry.specs.declared.Level.{Level}
use Rattle.pg_event.specs.declared.invalidation.Invalidation.{Invalidation}
use Rattle.pg_event.specs.declared.invalidation.Invalidation.TheVariants.{Nothing, Address, Page}
use Rattle.pg_event.specs.declared.invalidation.Invalidation.TheVariants.{Pcid, Everything}
use Rattle.pg_event.specs.Invalidation.{level_shift, bits_from}
use Rattle.pg_shadow.specs.declared.slot.Slot.{Slot}
use Rattle.pg_shadow.specs.Slots.{no_slot, bare}

-- whether a slot is on the path of an address
abbrev pub is_on_path : Level → ℕ → ℕ → Bool
is_on_path level number la = number == bits_from (level_shift level) la

-- what is left of a slot under a PCID, where structure entries and translations of an address go
-- together
abbrev pub left_own : Invalidation → ℕ → Level → ℕ → Slot → Slot
left_own Nothing q level number s = s
left_own (Address pcid la structures translations globals) q level number s =
    if q == pcid && is_on_path level number la then no_slot else s
left_own (Page pcid la) q level number s =
    if q == pcid then (if is_on_path level number la then no_slot else bare s) else s
left_own (Pcid pcid) q level number s = if q == pcid then no_slot else s
left_own (Everything globals) q level number s = no_slot

-- whether a global translation goes
abbrev pub global_goes : Invalidation → ℕ → ℕ → Bool
global_goes Nothing shift number = false
global_goes (Address pcid la structures translations globals) shift number =
    globals && number == bits_from shift la
global_goes (Page pcid la) shift number = number == bits_from shift la
global_goes (Pcid pcid) shift number = false
global_goes (Everything globals) shift number = globals
