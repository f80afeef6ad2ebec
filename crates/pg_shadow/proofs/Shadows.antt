-- What a shadow is seen as, and how that changes with what is kept.
use Rattle.std.proofs.Common.{◌≡◌, ℕ, Bool, true, false, nat_eq, not, ◌&&◌, ◌||◌, cond, List, [], Option, Some, None, refl, ap, sym, subst, ◌∙◌, inl, inr, eq-eqb}
use Rattle.std.proofs.lemmas.Bool.{cases_Bool, eqb-true, cond_both, false_from_ne_true, false≢true}
use Rattle.pg_entry.specs.declared.AccessKind.{AccessKind}
use Rattle.pg_entry.specs.declared.Level.{Level}
use Rattle.pg_entry.specs.Rules.{all_rules}
use Rattle.pg_entry.specs.declared.Level.TheVariants.{Three, Two, One}
use Rattle.pg_event.specs.declared.event.Event.{Event}
use Rattle.pg_event.specs.declared.event.Event.TheVariants.{MovCr3, MovCr4Pge}
use Rattle.pg_event.specs.declared.control.Control.{Control}
use Rattle.pg_event.specs.Heads.{Head}
use Rattle.pg_event.specs.Form.{processor_of}
use Rattle.pg_event.specs.Values.{controlled, loaded}
use Rattle.pg_event.specs.declared.keys.StructureKey.{StructureKey}
use Rattle.pg_event.specs.declared.keys.TranslationKey.{TranslationKey}
use Rattle.pg_event.specs.declared.invalidation.Invalidation.{Invalidation}
use Rattle.pg_event.specs.Invalidation.{level_shift, must_drop_structure, must_drop_translation}
use Rattle.pg_event.specs.Meaning.{takes_structure, takes_translation, is_whole}
use Rattle.pg_shadow.specs.declared.entries.KeptTable.{KeptTable}
use Rattle.pg_shadow.specs.declared.entries.KeptLeaf.{KeptLeaf}
use Rattle.pg_shadow.specs.declared.slot.Slot.{Slot}
use Rattle.pg_shadow.specs.declared.slot.KeptEntry.TheVariants.{Table, Leaf}
use Rattle.pg_shadow.specs.Caches.{Caches, empty, with_table, with_leaf, after, is_page_shift}
use Rattle.pg_shadow.specs.Find.{chosen, found}
use Rattle.pg_shadow.specs.Slots.{no_slot, with_kept, left_in}
use Rattle.pg_shadow.specs.Left.{global_goes}
use Rattle.pg_shadow.specs.Pages.{Sheet}
use Rattle.pg_shadow.specs.Spaces.{nothing, slot_in, leaf_in, path_in, is_slot, Keeps, IsSame}
use Rattle.pg_shadow.specs.Held.{Held, space_of, seen, level_of, KeepsOwn, IsSameOwn, IsLeftOwn, IsLeftGlobals}
use Rattle.pg_shadow.proofs.Left.{left_own-event, global_goes-taken}
use Rattle.pg_shadow.proofs.Slots.{none_either}
use Rattle.pg_shadow.proofs.Spaces.{slot_in-nothing}

-- ---- the sizes of pages

-- one of three choices by the size of a page
abbrev pub by_shift : (Level → Option KeptLeaf) → ℕ → Option KeptLeaf
by_shift at shift = cond (nat_eq shift 12) (at One) (cond (nat_eq shift 21) (at Two) (cond (nat_eq shift 30) (at Three) None))

-- what holds of each level's choice, and of none, holds of the choice by size
by_shift-both : (P : ℕ → Option KeptLeaf → Option KeptLeaf → Type 0) (at was : Level → Option KeptLeaf) (shift : ℕ)
    → ((l : Level) → P (level_shift l) (at l) (was l))
    → (nat_eq shift 12 ≡ false → nat_eq shift 21 ≡ false → nat_eq shift 30 ≡ false → P shift None None)
    → P shift (by_shift at shift) (by_shift was shift)
by_shift-both P at was shift h none =
    let R : ℕ → Type 0 = λ n. P n (by_shift at n) (by_shift was n) in
    elim (cases_Bool (nat_eq shift 12)) [
      | inl small ↦ subst R (sym (eqb-true shift 12 small)) (h One)
      | inr not_small ↦
          elim (cases_Bool (nat_eq shift 21)) [
            | inl large ↦ subst R (sym (eqb-true shift 21 large)) (h Two)
            | inr not_large ↦
                elim (cases_Bool (nat_eq shift 30)) [
                  | inl giant ↦ subst R (sym (eqb-true shift 30 giant)) (h Three)
                  | inr not_giant ↦ rw (not_small, not_large, not_giant) (none not_small not_large not_giant)
                ]
          ]
    ]

abbrev translations : (List Sheet) → ℕ → Level → Option KeptLeaf
translations s n l = (slot_in s l n).translation

leaf_in-same : (a b : List Sheet) (shift n : ℕ) → ((l : Level) → translations a n l ≡ translations b n l) → leaf_in a shift n ≡ leaf_in b shift n
leaf_in-same a b shift n h = by_shift-both (λ _ x y. x ≡ y) (translations a n) (translations b n) shift h (λ _ _ _. refl)

leaf_in-nothing : (shift n : ℕ) → leaf_in nothing shift n ≡ None
leaf_in-nothing shift n =
    let P : Option KeptLeaf → Type 0 = λ o. o ≡ None in
    let at : (l : Level) → translations nothing n l ≡ None = λ l. ap (λ (s : Slot). s.translation) (slot_in-nothing l n) in
    cond_both (nat_eq shift 12) (translations nothing n One) _ P (λ _. at One)
    (λ _. cond_both (nat_eq shift 21) (translations nothing n Two) _ P (λ _. at Two)
    (λ _. cond_both (nat_eq shift 30) (translations nothing n Three) None P (λ _. at Three) (λ _. refl)))

-- what holds of each size of a page
pub page_cases : (P : ℕ → Type 0) (shift : ℕ) → is_page_shift shift ≡ true → P 12 → P 21 → P 30 → P shift
page_cases P shift page small large giant =
    elim (cases_Bool (nat_eq shift 12)) [
      | inl e ↦ subst P (sym (eqb-true shift 12 e)) small
      | inr a ↦
          elim (cases_Bool (nat_eq shift 21)) [
            | inl e ↦ subst P (sym (eqb-true shift 21 e)) large
            | inr b ↦
                let e : nat_eq shift 30 ≡ true = sym (ap (λ t. (t || nat_eq shift 21) || nat_eq shift 30) a ∙ ap (λ t. t || nat_eq shift 30) b) ∙ page in
                subst P (sym (eqb-true shift 30 e)) giant
          ]
    ]

pub level_of-shift : (shift : ℕ) → is_page_shift shift ≡ true → level_shift (level_of shift) ≡ shift
level_of-shift shift page = page_cases (λ s. level_shift (level_of s) ≡ s) shift page refl refl refl

other_shift : (n shift : ℕ) → nat_eq n shift ≡ false → nat_eq shift n ≡ false
other_shift n shift h = false_from_ne_true (nat_eq shift n) (λ e. false≢true (sym h ∙ eq-eqb n shift (sym (eqb-true shift n e))))

-- of no size is nothing
none_other : (b d : Bool) (kept : KeptLeaf) → None ≡ cond (b && false && d) (Some kept) None
none_other true d kept = refl
none_other false d kept = refl

-- one slot with a page more, seen by the sizes of pages
by_shift-kept : (at was : Level → Option KeptLeaf) (b d : Bool) (shift s : ℕ) (kept : KeptLeaf) → is_page_shift shift ≡ true
    → ((l : Level) → at l ≡ cond (b && nat_eq (level_shift (level_of shift)) (level_shift l) && d) (Some kept) (was l))
    → by_shift at s ≡ cond (b && nat_eq shift s && d) (Some kept) (by_shift was s)
by_shift-kept at was b d shift s kept page h =
    by_shift-both (λ n x y. x ≡ cond (b && nat_eq shift n && d) (Some kept) y) at was s
    (λ l. h l ∙ ap (λ m. cond (b && nat_eq m (level_shift l) && d) (Some kept) (was l)) (level_of-shift shift page))
    (λ small large giant.
    let other : nat_eq shift s ≡ false =
    page_cases (λ t. nat_eq t s ≡ false) shift page (other_shift s 12 small) (other_shift s 21 large) (other_shift s 30 giant) in
    none_other b d kept ∙ ap (λ t. cond (b && t && d) (Some kept) None) (sym other))

-- ---- slots with an entry more

table_kept : (b : Bool) (t : KeptTable) (s : Slot) → (cond b (with_kept (Table t) s) s).structure ≡ cond b (Some t) s.structure
table_kept true t s = refl
table_kept false t s = refl

table_stays : (b : Bool) (l : KeptLeaf) (s : Slot) → (cond b (with_kept (Leaf l) s) s).structure ≡ s.structure
table_stays true l s = refl
table_stays false l s = refl

leaf_kept : (b : Bool) (l : KeptLeaf) (s : Slot) → (cond b (with_kept (Leaf l) s) s).translation ≡ cond b (Some l) s.translation
leaf_kept true l s = refl
leaf_kept false l s = refl

leaf_stays : (b : Bool) (t : KeptTable) (s : Slot) → (cond b (with_kept (Table t) s) s).translation ≡ s.translation
leaf_stays true t s = refl
leaf_stays false t s = refl

-- ---- what a shadow is seen as

abbrev structure_of : Slot → Option KeptTable
structure_of s = s.structure

abbrev translation_of : Slot → Option KeptLeaf
translation_of s = s.translation

-- where a translation stands
abbrev space_at : Held → Bool → ℕ → (List Sheet)
space_at h global pcid = cond global h.globals (space_of h.own pcid)

start_leaf : (global : Bool) (shift n : ℕ) → leaf_in (cond global nothing nothing) shift n ≡ None
start_leaf true shift n = leaf_in-nothing shift n
start_leaf false shift n = leaf_in-nothing shift n

seen-empty : (m : ℕ) (c : Control) → seen (record { width = m; control = c; own = []; globals = nothing }) ≡ empty m c
unfolding seen
seen-empty m c = λ i. record {
  width = m;
  control = c;
  tables = λ k. ap structure_of (slot_in-nothing k.level k.prefix) i;
  leaves = λ k. start_leaf k.global k.shift k.number i;
}

pub seen-start : (m n : ℕ) (r c : Control) (own : List (ℕ × List Sheet)) (globals : List Sheet) → m ≡ n → r ≡ c → own ≡ [] → globals ≡ nothing → seen (record { width = m; control = r; own = own; globals = globals }) ≡ empty n c
seen-start m n r c own globals width registers no_own no_globals =
    (λ i. seen (record { width = width i; control = registers i; own = no_own i; globals = no_globals i })) ∙ seen-empty n c

table_leaf : (h : Held) (own : List (ℕ × List Sheet)) (pcid : ℕ) (level : Level) (number : ℕ) (kept : KeptTable) → KeepsOwn h.own own pcid level number (Table kept)
    → (global : Bool) (q shift n : ℕ) → leaf_in (cond global h.globals (space_of own q)) shift n ≡ leaf_in (space_at h global q) shift n
table_leaf h own pcid level number kept keeps true q shift n = refl
table_leaf h own pcid level number kept keeps false q shift n =
    leaf_in-same (space_of own q) (space_of h.own q) shift n
    (λ l. ap translation_of (keeps.at q l n) ∙ leaf_stays (nat_eq pcid q && nat_eq (level_shift level) (level_shift l) && nat_eq number n) kept (slot_in (space_of h.own q) l n))

pub seen-with_table : (h : Held) (own : List (ℕ × List Sheet)) (pcid : ℕ) (level : Level) (number : ℕ) (kept : KeptTable) → KeepsOwn h.own own pcid level number (Table kept)
    → seen (record h { own = own }) ≡ with_table (record { pcid = pcid; level = level; prefix = number }) kept (seen h)
unfolding seen
seen-with_table h own pcid level number kept keeps = λ i. record {
  width = h.width;
  control = h.control;
  tables = λ k.
      let before : Slot = slot_in (space_of h.own k.pcid) k.level k.prefix in
      (ap structure_of (keeps.at k.pcid k.level k.prefix)
      ∙ table_kept (nat_eq pcid k.pcid && nat_eq (level_shift level) (level_shift k.level) && nat_eq number k.prefix) kept before) i;
  leaves = λ k. table_leaf h own pcid level number kept keeps k.global k.pcid k.shift k.number i;
}

own_leaf : (h : Held) (own : List (ℕ × List Sheet)) (pcid shift number : ℕ) (kept : KeptLeaf) → is_page_shift shift ≡ true → KeepsOwn h.own own pcid (level_of shift) number (Leaf kept)
    → (global : Bool) (q s n : ℕ) → leaf_in (cond global h.globals (space_of own q)) s n ≡ cond ((not global && nat_eq pcid q) && nat_eq shift s && nat_eq number n) (Some kept) (leaf_in (space_at h global q) s n)
own_leaf h own pcid shift number kept page keeps true q s n = refl
own_leaf h own pcid shift number kept page keeps false q s n =
    by_shift-kept (translations (space_of own q) n) (translations (space_of h.own q) n) (nat_eq pcid q) (nat_eq number n) shift s kept page
    (λ l. ap translation_of (keeps.at q l n) ∙ leaf_kept (nat_eq pcid q && nat_eq (level_shift (level_of shift)) (level_shift l) && nat_eq number n) kept (slot_in (space_of h.own q) l n))

pub seen-with_own_leaf : (h : Held) (own : List (ℕ × List Sheet)) (pcid shift number : ℕ) (kept : KeptLeaf) → is_page_shift shift ≡ true → KeepsOwn h.own own pcid (level_of shift) number (Leaf kept)
    → seen (record h { own = own }) ≡ with_leaf (record { pcid = pcid; shift = shift; number = number; global = false }) kept (seen h)
unfolding seen
seen-with_own_leaf h own pcid shift number kept page keeps = λ i. record {
  width = h.width;
  control = h.control;
  tables = λ k.
      let before : Slot = slot_in (space_of h.own k.pcid) k.level k.prefix in
      (ap structure_of (keeps.at k.pcid k.level k.prefix)
      ∙ table_stays (nat_eq pcid k.pcid && nat_eq (level_shift (level_of shift)) (level_shift k.level) && nat_eq number k.prefix) kept before) i;
  leaves = λ k. own_leaf h own pcid shift number kept page keeps k.global k.pcid k.shift k.number i;
}

global_leaf : (h : Held) (globals : List Sheet) (shift number : ℕ) (kept : KeptLeaf) → is_page_shift shift ≡ true → Keeps h.globals globals (level_of shift) number (Leaf kept)
    → (global : Bool) (q s n : ℕ) → leaf_in (cond global globals (space_of h.own q)) s n ≡ cond (global && nat_eq shift s && nat_eq number n) (Some kept) (leaf_in (space_at h global q) s n)
global_leaf h globals shift number kept page keeps false q s n = refl
global_leaf h globals shift number kept page keeps true q s n =
    by_shift-kept (translations globals n) (translations h.globals n) true (nat_eq number n) shift s kept page
    (λ l. ap translation_of (keeps.at l n) ∙ leaf_kept (is_slot (level_of shift) number l n) kept (slot_in h.globals l n))

pub seen-with_global_leaf : (h : Held) (globals : List Sheet) (pcid shift number : ℕ) (kept : KeptLeaf) → is_page_shift shift ≡ true → Keeps h.globals globals (level_of shift) number (Leaf kept)
    → seen (record h { globals = globals }) ≡ with_leaf (record { pcid = pcid; shift = shift; number = number; global = true }) kept (seen h)
unfolding seen
seen-with_global_leaf h globals pcid shift number kept page keeps = λ i. record {
  width = h.width;
  control = h.control;
  tables = (seen h).tables;
  leaves = λ k. global_leaf h globals shift number kept page keeps k.global k.pcid k.shift k.number i;
}

same_own_leaf : (h : Held) (own : List (ℕ × List Sheet)) → IsSameOwn h.own own → (global : Bool) (q s n : ℕ) → leaf_in (cond global h.globals (space_of own q)) s n ≡ leaf_in (space_at h global q) s n
same_own_leaf h own same true q s n = refl
same_own_leaf h own same false q s n = leaf_in-same (space_of own q) (space_of h.own q) s n (λ l. ap translation_of (same.at q l n))

pub seen-same_own : (h : Held) (own : List (ℕ × List Sheet)) → IsSameOwn h.own own → seen (record h { own = own }) ≡ seen h
unfolding seen
seen-same_own h own same = λ i. record {
  width = h.width;
  control = h.control;
  tables = λ k. ap structure_of (same.at k.pcid k.level k.prefix) i;
  leaves = λ k. same_own_leaf h own same k.global k.pcid k.shift k.number i;
}

same_global_leaf : (h : Held) (globals : List Sheet) → IsSame h.globals globals → (global : Bool) (q s n : ℕ) → leaf_in (cond global globals (space_of h.own q)) s n ≡ leaf_in (space_at h global q) s n
same_global_leaf h globals same false q s n = refl
same_global_leaf h globals same true q s n = leaf_in-same globals h.globals s n (λ l. ap translation_of (same.at l n))

pub seen-same_globals : (h : Held) (globals : List Sheet) → IsSame h.globals globals → seen (record h { globals = globals }) ≡ seen h
unfolding seen
seen-same_globals h globals same = λ i. record {
  width = h.width;
  control = h.control;
  tables = (seen h).tables;
  leaves = λ k. same_global_leaf h globals same k.global k.pcid k.shift k.number i;
}

-- ---- keys that have nothing

leaf_in-none : (s : List Sheet) (shift n : ℕ) → is_page_shift shift ≡ true → slot_in s (level_of shift) n ≡ no_slot → leaf_in s shift n ≡ None
leaf_in-none s shift n page = page_cases (λ t. slot_in s (level_of t) n ≡ no_slot → leaf_in s t n ≡ None) shift page (λ h. ap translation_of h) (λ h. ap translation_of h) (λ h. ap translation_of h)

pub no_table : (h : Held) (pcid : ℕ) (level : Level) (n : ℕ) → slot_in (space_of h.own pcid) level n ≡ no_slot → (seen h).tables (record { pcid = pcid; level = level; prefix = n }) ≡ None
unfolding seen
no_table h pcid level n none = ap structure_of none

pub no_own_leaf : (h : Held) (pcid shift n : ℕ) → is_page_shift shift ≡ true → slot_in (space_of h.own pcid) (level_of shift) n ≡ no_slot
    → (seen h).leaves (record { pcid = pcid; shift = shift; number = n; global = false }) ≡ None
unfolding seen
no_own_leaf h pcid shift n page none = leaf_in-none (space_of h.own pcid) shift n page none

pub no_global_leaf : (h : Held) (pcid shift n : ℕ) → is_page_shift shift ≡ true → slot_in h.globals (level_of shift) n ≡ no_slot
    → (seen h).leaves (record { pcid = pcid; shift = shift; number = n; global = true }) ≡ None
unfolding seen
no_global_leaf h pcid shift n page none = leaf_in-none h.globals shift n page none

-- ---- what an event leaves

left_leaf : (c : Control) (e : Event) (old new : List Sheet) (pcid : ℕ) (s n : ℕ) → ((l : Level) → slot_in new l n ≡ left_in c e pcid false l n (slot_in old l n))
    → leaf_in new s n ≡ cond (must_drop_translation all_rules c e (record { pcid = pcid; shift = s; number = n; global = false })) None (leaf_in old s n)
left_leaf c e old new pcid s n left =
    let goes : ℕ → Bool = λ m. must_drop_translation all_rules c e (record { pcid = pcid; shift = m; number = n; global = false }) in
    by_shift-both (λ m x y. x ≡ cond (goes m) None y) (translations new n) (translations old n) s
    (λ l. ap translation_of (left l))
    (λ _ _ _. none_either (goes s) None refl)

global_leaf-left : (i : Invalidation) (old new : List Sheet) (s n : ℕ) → IsLeftGlobals i old new → leaf_in new s n ≡ cond (global_goes i s n) None (leaf_in old s n)
global_leaf-left i old new s n left =
    let goes : ℕ → Bool = λ m. global_goes i m n in
    by_shift-both (λ m x y. x ≡ cond (goes m) None y) (translations new n) (translations old n) s
    (λ l. left.at l n)
    (λ _ _ _. none_either (goes s) None refl)

-- an invalidation takes out what an event must drop
pub record Takes (i : Invalidation) (c : Control) (e : Event) : Type 0 where
  pub structures : (key : StructureKey) → takes_structure i key ≡ must_drop_structure all_rules c e key
  pub translations : (key : TranslationKey) → takes_translation i key ≡ must_drop_translation all_rules c e key
  pub whole : is_whole i ≡ true

after_leaf : (h : Held) (e : Event) (i : Invalidation) (own : List (ℕ × List Sheet)) (globals : List Sheet) → Takes i h.control e → IsLeftOwn i h.own own → IsLeftGlobals i h.globals globals
    → (global : Bool) (q s n : ℕ) → leaf_in (cond global globals (space_of own q)) s n ≡ cond (must_drop_translation all_rules h.control e (record { pcid = q; shift = s; number = n; global = global })) None (leaf_in (space_at h global q) s n)
after_leaf h e i own globals takes left_own left_globals true q s n =
    global_leaf-left i h.globals globals s n left_globals
    ∙ ap (λ t. cond t None (leaf_in h.globals s n)) (global_goes-taken i q s n ∙ takes.translations (record { pcid = q; shift = s; number = n; global = true }))
after_leaf h e i own globals takes left_own left_globals false q s n =
    left_leaf h.control e (space_of h.own q) (space_of own q) q s n
    (λ l. left_own.at q l n ∙ left_own-event i h.control e takes.whole takes.structures takes.translations q l n (slot_in (space_of h.own q) l n))

pub seen-after : (h : Held) (e : Event) (i : Invalidation) (own : List (ℕ × List Sheet)) (globals : List Sheet) → Takes i h.control e → IsLeftOwn i h.own own → IsLeftGlobals i h.globals globals
    → seen (record { width = h.width; control = controlled h.width (processor_of e) h.control e; own = own; globals = globals }) ≡ after e (seen h)
unfolding seen
seen-after h e i own globals takes left_own left_globals = λ j. record {
  width = h.width;
  control = controlled h.width (processor_of e) h.control e;
  tables = λ k.
      let was : Slot = slot_in (space_of h.own k.pcid) k.level k.prefix in
      (ap structure_of (left_own.at k.pcid k.level k.prefix)
      ∙ ap structure_of (left_own-event i h.control e takes.whole takes.structures takes.translations k.pcid k.level k.prefix was)) j;
  leaves = λ k. after_leaf h e i own globals takes left_own left_globals k.global k.pcid k.shift k.number j;
}

-- ---- what is found

pub chosen-found : (h : Held) (la : ℕ) (head : Head) (kind : AccessKind) → chosen (path_in (space_of h.own h.control.pcid) la) (path_in h.globals la) head kind ≡ found (seen h) la head kind
unfolding seen
chosen-found h la head kind = refl

-- the event is the processor's own, whatever its number
pub after-cr3 : (s : Caches) (p q operand : ℕ) → after (MovCr3 p operand) s ≡ after (MovCr3 q operand) s
after-cr3 s p q operand =
    ap (λ t. record (after (MovCr3 p operand) s) { control = cond t (loaded s.width operand s.control.pge) s.control }) (eq-eqb p p refl ∙ sym (eq-eqb q q refl))

pub after-pge : (s : Caches) (p q : ℕ) (on : Bool) → after (MovCr4Pge p on) s ≡ after (MovCr4Pge q on) s
after-pge s p q on =
    ap (λ t. record (after (MovCr4Pge p on) s) { control = cond t (record s.control { pge = on }) s.control }) (eq-eqb p p refl ∙ sym (eq-eqb q q refl))
