-- What an invalidation leaves by the places of entries is what it leaves by their keys.
use Rattle.std.proofs.Common.{◌≡◌, ℕ, Bool, true, false, nat_eq, ◌&&◌, ◌||◌, cond, List, None, refl, ap, ◌∙◌}
use Rattle.pg_entry.specs.declared.Level.{Level}
use Rattle.pg_entry.specs.Rules.{all_rules}
use Rattle.pg_event.specs.declared.event.Event.{Event}
use Rattle.pg_event.specs.declared.control.Control.{Control}
use Rattle.pg_event.specs.declared.keys.StructureKey.{StructureKey}
use Rattle.pg_event.specs.declared.keys.TranslationKey.{TranslationKey}
use Rattle.pg_event.specs.declared.invalidation.Invalidation.{Invalidation}
use Rattle.pg_event.specs.declared.invalidation.Invalidation.TheVariants.{Nothing, Address, Page, Pcid, Everything}
use Rattle.pg_event.specs.Invalidation.{level_shift, bits_from, must_drop_structure, must_drop_translation}
use Rattle.pg_event.specs.Meaning.{takes_structure, takes_translation, is_whole}
use Rattle.pg_shadow.specs.declared.slot.Slot.{Slot}
use Rattle.pg_shadow.specs.Slots.{no_slot, bare, left_in}
use Rattle.pg_shadow.specs.Left.{is_on_path, left_own, global_goes}
use Rattle.pg_shadow.specs.Pages.{Sheet}
use Rattle.pg_shadow.specs.Spaces.{slot_in}
use Rattle.pg_shadow.specs.Held.{space_of, IsLeftOwn, IsLeftGlobals}

-- ---- slots

-- a slot without its table, its page, or both
abbrev less : Bool → Bool → Slot → Slot
less table page s = record { structure = cond table None s.structure; translation = cond page None s.translation }

on_path : (own on : Bool) (s : Slot) → cond (own && on) no_slot s ≡ less (own && on) (on && own) s
on_path true true s = refl
on_path true false s = refl
on_path false true s = refl
on_path false false s = refl

tables_too : (own on : Bool) (s : Slot) → cond own (cond on no_slot (bare s)) s ≡ less own (on && own) s
tables_too true true s = refl
tables_too true false s = refl
tables_too false true s = refl
tables_too false false s = refl

all_own : (own : Bool) (s : Slot) → cond own no_slot s ≡ less own own s
all_own true s = refl
all_own false s = refl

abbrev structure_at : ℕ → Level → ℕ → StructureKey
structure_at q l n = record { pcid = q; level = l; prefix = n }

abbrev translation_at : ℕ → Level → ℕ → TranslationKey
translation_at q l n = record { pcid = q; shift = level_shift l; number = n; global = false }

left_own-taken : (i : Invalidation) (q : ℕ) (l : Level) (n : ℕ) (s : Slot) → is_whole i ≡ true → left_own i q l n s ≡ less (takes_structure i (structure_at q l n)) (takes_translation i (translation_at q l n)) s
left_own-taken Nothing q l n s whole = refl
left_own-taken (Address pcid la true true globals) q l n s whole = on_path (nat_eq q pcid) (is_on_path l n la) s
left_own-taken (Address pcid la true false globals) q l n s whole = absurd (cc)
left_own-taken (Address pcid la false translations globals) q l n s whole = absurd (cc)
left_own-taken (Page pcid la) q l n s whole = tables_too (nat_eq q pcid) (is_on_path l n la) s
left_own-taken (Pcid pcid) q l n s whole = all_own (nat_eq q pcid) s
left_own-taken (Everything true) q l n s whole = refl
left_own-taken (Everything false) q l n s whole = refl

-- what is left by an event's invalidation is what the event leaves
pub left_own-event : (i : Invalidation) (c : Control) (e : Event) → is_whole i ≡ true → ((key : StructureKey) → takes_structure i key ≡ must_drop_structure all_rules c e key)
    → ((key : TranslationKey) → takes_translation i key ≡ must_drop_translation all_rules c e key) → (q : ℕ) (l : Level) (n : ℕ) (s : Slot) → left_own i q l n s ≡ left_in c e q false l n s
left_own-event i c e whole structures translations q l n s =
    left_own-taken i q l n s whole
    ∙ ap (λ b. less b (takes_translation i (translation_at q l n)) s) (structures (structure_at q l n))
    ∙ ap (λ b. less (must_drop_structure all_rules c e (structure_at q l n)) b s) (translations (translation_at q l n))

-- ---- global translations

swapped : (a b : Bool) → (a && b) ≡ (b && a)
swapped true true = refl
swapped true false = refl
swapped false true = refl
swapped false false = refl

and_true : (a : Bool) → a ≡ (a && true)
and_true true = refl
and_true false = refl

or_false : (a : Bool) → a ≡ (a || false)
or_false true = refl
or_false false = refl

pub global_goes-taken : (i : Invalidation) (q shift n : ℕ) → global_goes i shift n ≡ takes_translation i (record { pcid = q; shift = shift; number = n; global = true })
global_goes-taken Nothing q shift n = refl
global_goes-taken (Address pcid la structures translations globals) q shift n = swapped globals (nat_eq n (bits_from shift la))
global_goes-taken (Page pcid la) q shift n = and_true (nat_eq n (bits_from shift la))
global_goes-taken (Pcid pcid) q shift n = refl
global_goes-taken (Everything globals) q shift n = or_false globals

-- ---- what is kept under PCIDs, and for all

pub IsLeftOwn-by : (i : Invalidation) (old new : List (ℕ × List Sheet)) (j : Invalidation) → j ≡ i
    → ((q : ℕ) (l : Level) (n : ℕ) → slot_in (space_of new q) l n ≡ left_own j q l n (slot_in (space_of old q) l n)) → IsLeftOwn i old new
IsLeftOwn-by i old new j is left = record {
  at = λ q l n.
      let was : Slot = slot_in (space_of old q) l n in
      left q l n ∙ ap (λ k. left_own k q l n was) is;
}

pub IsLeftGlobals-by : (i : Invalidation) (old new : List Sheet) (j : Invalidation) → j ≡ i
    → ((l : Level) (n : ℕ) → (slot_in new l n).translation ≡ cond (global_goes j (level_shift l) n) None (slot_in old l n).translation) → IsLeftGlobals i old new
IsLeftGlobals-by i old new j is left = record {
  at = λ l n. left l n ∙ ap (λ k. cond (global_goes k (level_shift l) n) None (slot_in old l n).translation) is;
}

-- what is left of a slot by steps
pub forgotten_own : (own on : Bool) (s : Slot) → cond own (cond on no_slot s) s ≡ cond (own && on) no_slot s
forgotten_own true on s = refl
forgotten_own false on s = refl

pub bared_own : (own on : Bool) (s t : Slot) → t ≡ cond own (bare s) s → cond own (cond on no_slot t) t ≡ cond own (cond on no_slot (bare s)) s
bared_own true on s t h = ap (cond on no_slot) h
bared_own false on s t h = h

pub forgotten_leaf : (on : Bool) (s : Slot) → (cond on no_slot s).translation ≡ cond on None s.translation
forgotten_leaf true s = refl
forgotten_leaf false s = refl
