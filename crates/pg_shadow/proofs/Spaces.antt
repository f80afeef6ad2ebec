-- What is kept under each PCID.
use Rattle.std.proofs.Common.{◌≡◌, ℕ, ◌/◌, ◌%◌, Bool, true, false, nat_eq, cond, List, Option, Some, None, refl, ap, sym, ◌∙◌}
use Rattle.std.specs.Map.{lookup}
use Rattle.std.specs.Option.{unwrap_or}
use Rattle.std.proofs.lemmas.Bool.{eqb-true}
use Rattle.pg_entry.specs.declared.Level.{Level}
use Rattle.pg_entry.specs.declared.Level.TheVariants.{Four, Three, Two, One}
use Rattle.pg_event.specs.Invalidation.{bits_from}
use Rattle.pg_shadow.specs.Slots.{no_slot}
use Rattle.pg_shadow.specs.declared.slot.Slot.{Slot}
use Rattle.pg_shadow.specs.Held.{space_of, IsChangedOwn}
use Rattle.pg_shadow.specs.Pages.{Sheet, no_place, place_of, page_at}
use Rattle.pg_shadow.specs.Spaces.{nothing, slot_in, path_in}

no_places : (o : Option ℕ) (i : ℕ) → place_of nothing o i ≡ no_place
no_places None i = refl
no_places (Some j) i = refl

-- nothing stands in an empty space
pub slot_in-nothing : (l : Level) (n : ℕ) → slot_in nothing l n ≡ no_slot
unfolding slot_in
slot_in-nothing l n = ap (λ p. p.slot) (no_places (page_at nothing l (n / 512)) (n % 512))

pub path_in-nothing : (la : ℕ) → path_in nothing la ≡ record { four = no_slot; three = no_slot; two = no_slot; one = no_slot }
path_in-nothing la = λ i. record {
  four = slot_in-nothing Four (bits_from 39 la) i;
  three = slot_in-nothing Three (bits_from 30 la) i;
  two = slot_in-nothing Two (bits_from 21 la) i;
  one = slot_in-nothing One (bits_from 12 la) i;
}

-- where nothing stands under a PCID, a change that leaves nothing of nothing changes nothing
changed_either : (b : Bool) (f : Slot → Slot) (s : Slot) → (b ≡ true → s ≡ no_slot) → f no_slot ≡ no_slot → s ≡ cond b (f s) s
changed_either true f s h none = h refl ∙ sym none ∙ ap f (sym (h refl))
changed_either false f s h none = refl

none_here : (own : List (ℕ × List Sheet)) (pcid q : ℕ) (l : Level) (n : ℕ) → lookup (nat_eq pcid) own ≡ None → nat_eq q pcid ≡ true → slot_in (space_of own q) l n ≡ no_slot
none_here own pcid q l n absent same =
    ap (λ k. slot_in (space_of own k) l n) (eqb-true q pcid same) ∙ ap (λ o. slot_in (unwrap_or o nothing) l n) absent ∙ slot_in-nothing l n

pub IsChangedOwn-absent : (change : Level → ℕ → Slot → Slot) (pcid : ℕ) (own : List (ℕ × List Sheet)) → lookup (nat_eq pcid) own ≡ None
    → ((l : Level) (n : ℕ) → change l n no_slot ≡ no_slot) → IsChangedOwn change pcid own own
IsChangedOwn-absent change pcid own absent none = record {
  at = λ q l n. changed_either (nat_eq q pcid) (change l n) (slot_in (space_of own q) l n) (none_here own pcid q l n absent) (none l n);
}

pub forgets_nothing : (on : Bool) → cond on no_slot no_slot ≡ no_slot
forgets_nothing true = refl
forgets_nothing false = refl

pub removed_either : (b : Bool) (o : Option (List Sheet)) (l : Level) (n : ℕ) → slot_in (unwrap_or (cond b None o) nothing) l n ≡ cond b no_slot (slot_in (unwrap_or o nothing) l n)
removed_either true o l n = slot_in-nothing l n
removed_either false o l n = refl
