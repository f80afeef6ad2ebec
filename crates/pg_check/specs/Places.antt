-- A place for a walk, which may have none.
use Rattle.std.specs.Prelude.{◌≡◌, ◌==◌, Bool, true, false, if◌then◌else◌, [], ◌∷◌}
use Rattle.std.specs.Prelude.{Option, Some, None}
use Rattle.std.proofs.Common.{refl, sym, ap}
use Rattle.std.proofs.lemmas.Bool.{eqb-true}
use Rattle.pg_entry.specs.declared.Level.TheVariants.{Four}
use Rattle.pg_check.specs.declared.memo.Slot.{Slot}
use Rattle.pg_check.specs.declared.place.Place.TheInside.{Inside}

-- the slot of a place without a walk, whose page has no size
abbrev pub no_walk : Slot
no_walk = record {
  page = 0;
  p = 0;
  pcid = 0;
  asked = 0;
  value = 0;
  moments = 0 ∷ [];
  shift = 0;
  dropped = false;
  global = false;
  tables = false;
  rights = record { write = true; user = true; xd = false };
  level = Four;
  moment = 0;
  address = 0;
}

-- the slot of a place, if it has a walk
abbrev pub walk_at : Inside → Option Slot
walk_at a = if a.slot.shift == 0 then None else Some a.slot

-- all places without a walk are the same
abbrev pub IsPlace : Inside → Type 0
IsPlace a = a.slot.shift ≡ 0 → a.slot ≡ no_walk

-- the place of a slot, or the one without a walk
abbrev pub placed : Option Slot → Inside
placed None = record { slot = no_walk }
placed (Some s) = record { slot = s }

placed_either : (a : Inside) (b : Bool) → (a.slot.shift == 0) ≡ b → IsPlace a →
    placed (if b then None else Some a.slot) ≡ a
placed_either a true e h =
    ap (λ (s : Slot). record { slot = s }) (sym (h (eqb-true a.slot.shift 0 e)))
placed_either a false e h = refl

pub placed-walk_at : (a : Inside) → IsPlace a → placed (walk_at a) ≡ a
placed-walk_at a h = placed_either a (a.slot.shift == 0) refl h
