-- A tree of pages: what a change of one place changes.
use Rattle.std.proofs.Common.{◌≡◌, ℕ, ◌+◌, ◌*◌, ◌/◌, ◌%◌, ◌<◌, ◌≤◌, Bool, true, false, nat_eq, ◌&&◌, cond, List, [], ◌∷◌, ◌++◌, length, get_or, set, Option, Some, None, refl, ap, sym, subst, ◌∙◌, arith, inl, inr, ◌⊎◌, eq-eqb, length-set, length-append, replicate, Ok}
use Rattle.std.proofs.lemmas.Bool.{cases_Bool, eqb-true, and_parts, and_from, false≢true, false_from_ne_true, cases_lt}
use Rattle.std.proofs.lemmas.List.{get_or-set_other, get_or_default, get_or_past, get_or_push, get_or_append_left, get_or-replicate, length-replicate}
use Rattle.std.proofs.lemmas.Grind.{get_or-set_at}
use Rattle.pg_entry.specs.declared.Level.{Level}
use Rattle.pg_entry.specs.declared.Level.TheVariants.{Four, Three, Two, One}
use Rattle.pg_event.specs.Invalidation.{level_shift, bits_from}
use Rattle.pg_event.specs.Walk.{below}
use Rattle.pg_shadow.specs.declared.slot.KeptEntry.{KeptEntry}
use Rattle.pg_shadow.specs.declared.slot.KeptEntry.TheVariants.{Neither}
use Rattle.pg_shadow.specs.declared.slot.Slot.{Slot}
use Rattle.pg_shadow.specs.declared.page.Place.{Place}
use Rattle.pg_shadow.specs.Slots.{no_slot, with_kept, bare}
use Rattle.pg_shadow.specs.Pages.{Sheet, no_place, no_page, page_in, place_in, place_of, page_four, page_three, page_two, page_one, page_at, empty_page, IsBarePage, IsChild, IsTree}
use Rattle.pg_shadow.specs.Left.{is_on_path}
use Rattle.pg_shadow.specs.Spaces.{slot_in, path_in, is_slot, Keeps, IsSame, IsBared, IsForgotten, IsPageFor, IsAbove, HasPage}
use Rattle.pg_shadow.proofs.Levels.{level_same, nat_eq-comm}

-- ---- each page found stands where it says

-- a page stands at a level, for linear addresses with these bits above it
record IsNamed (pages : List Sheet) (level : Level) (prefix j : ℕ) : Type 0 where
  level_is : (page_in pages j).level ≡ level
  prefix_is : (page_in pages j).prefix ≡ prefix

named_four : (pages : List Sheet) (x j : ℕ) → IsTree pages → page_four pages x ≡ Some j → IsNamed pages Four x j
named_four pages x j tree h =
    let P : ℕ → Type 0 = λ k. IsNamed pages Four x k in
    elim (cases_Bool (nat_eq x 0)) [
      | inl zero ↦
          let is : Some 0 ≡ Some j = sym (ap (λ b. cond b (Some 0) None) zero) ∙ h in
          let first : 0 ≡ j = cc in
          subst P first (record { level_is = tree.level; prefix_is = tree.prefix ∙ sym (eqb-true x 0 zero) })
      | inr other ↦
          let is : None ≡ Some j = sym (ap (λ b. cond b (Some 0) None) other) ∙ h in
          absurd (cc)
    ]

named_below : (pages : List Sheet) (l : Level) (x j : ℕ) (up : Option ℕ) → IsTree pages → ((p : ℕ) → up ≡ Some p → IsNamed pages l (x / 512) p) → (place_of pages up (x % 512)).below ≡ Some j → IsNamed pages (below l) x j
named_below pages l x j None tree names h = absurd (cc)
named_below pages l x j (Some p) tree names h =
    let child = tree.children p (x % 512) j h in
    let above = names p refl in
    let whole : x / 512 * 512 + x % 512 ≡ x = omega arith in
    record {
      level_is = child.level ∙ ap below above.level_is;
      prefix_is = child.prefix ∙ ap (λ y. y * 512 + x % 512) above.prefix_is ∙ whole;
    }

named_three : (pages : List Sheet) (x j : ℕ) → IsTree pages → page_three pages x ≡ Some j → IsNamed pages Three x j
named_three pages x j tree h = named_below pages Four x j (page_four pages (x / 512)) tree (λ p e. named_four pages (x / 512) p tree e) h

named_two : (pages : List Sheet) (x j : ℕ) → IsTree pages → page_two pages x ≡ Some j → IsNamed pages Two x j
named_two pages x j tree h = named_below pages Three x j (page_three pages (x / 512)) tree (λ p e. named_three pages (x / 512) p tree e) h

named : (pages : List Sheet) (l : Level) (x j : ℕ) → IsTree pages → page_at pages l x ≡ Some j → IsNamed pages l x j
named pages Four x j tree h = named_four pages x j tree h
named pages Three x j tree h = named_three pages x j tree h
named pages Two x j tree h = named_two pages x j tree h
named pages One x j tree h = named_below pages Two x j (page_two pages (x / 512)) tree (λ p e. named_two pages (x / 512) p tree e) h

-- ---- trees with the same links

-- pages stand where they stood, and lead to the same pages
record SameTree (old new : List Sheet) : Type 0 where
  count : length new ≡ length old
  levels : (k : ℕ) → (page_in new k).level ≡ (page_in old k).level
  prefixes : (k : ℕ) → (page_in new k).prefix ≡ (page_in old k).prefix
  links : (k n : ℕ) → (place_in new k n).below ≡ (place_in old k n).below

IsTree-same : (old new : List Sheet) → SameTree old new → IsTree old → IsTree new
IsTree-same old new same tree = record {
  level = same.levels 0 ∙ tree.level;
  prefix = same.prefixes 0 ∙ tree.prefix;
  children = λ j i k h.
      let child = tree.children j i k (sym (same.links j i) ∙ h) in
      record {
        within = omega (arith, same.count, child.within);
        level = same.levels k ∙ child.level ∙ ap below (sym (same.levels j));
        prefix = same.prefixes k ∙ child.prefix ∙ ap (λ x. x * 512 + i) (sym (same.prefixes j));
      };
}

below-same : (old new : List Sheet) (o u : Option ℕ) (i : ℕ) → SameTree old new → u ≡ o → (place_of new u i).below ≡ (place_of old o i).below
below-same old new o u i same e =
    ap (λ v. (place_of new v i).below) e
    ∙ elim o as (λ v. (place_of new v i).below ≡ (place_of old v i).below) [ None ↦ refl | Some k ↦ same.links k i ]

three-same : (old new : List Sheet) (x : ℕ) → SameTree old new → page_three new x ≡ page_three old x
three-same old new x same = below-same old new (page_four old (x / 512)) (page_four new (x / 512)) (x % 512) same refl

two-same : (old new : List Sheet) (x : ℕ) → SameTree old new → page_two new x ≡ page_two old x
two-same old new x same = below-same old new (page_three old (x / 512)) (page_three new (x / 512)) (x % 512) same (three-same old new (x / 512) same)

page_at-same : (old new : List Sheet) (l : Level) (x : ℕ) → SameTree old new → page_at new l x ≡ page_at old l x
page_at-same old new Four x same = refl
page_at-same old new Three x same = three-same old new x same
page_at-same old new Two x same = two-same old new x same
page_at-same old new One x same = below-same old new (page_two old (x / 512)) (page_two new (x / 512)) (x % 512) same (two-same old new (x / 512) same)

-- ---- one place changed

at_set : {A : Type 0} (l : List A) (i n : ℕ) (a d : A) → i < length l → get_or (set l i a) n d ≡ cond (nat_eq i n) a (get_or l n d)
at_set l i n a d h =
    elim (cases_Bool (nat_eq i n)) [
      | inl same ↦ get_or-set_at l i n a d (sym (eqb-true i n same)) h ∙ ap (λ b. cond b a (get_or l n d)) (sym same)
      | inr other ↦ get_or-set_other l i n a d (λ e. false≢true (sym other ∙ eq-eqb i n (sym e))) ∙ ap (λ b. cond b a (get_or l n d)) (sym other)
    ]

cond_same : {A B : Type 0} (f : A → B) (b : Bool) (x y : A) → (b ≡ true → f x ≡ f y) → f (cond b x y) ≡ f y
cond_same f true x y h = h refl
cond_same f false x y h = refl

-- a page with another place at an index
abbrev pub with_place : Sheet → ℕ → Place → Sheet
with_place page i p = record page { places = set page.places i p }

record IsPlaced (old new : List Sheet) (j i : ℕ) (p : Place) : Type 0 where
  count : length new ≡ length old
  levels : (k : ℕ) → (page_in new k).level ≡ (page_in old k).level
  prefixes : (k : ℕ) → (page_in new k).prefix ≡ (page_in old k).prefix
  places : (k n : ℕ) → place_in new k n ≡ cond (nat_eq j k && nat_eq i n) p (place_in old k n)

IsPlaced-set : (pages : List Sheet) (j i : ℕ) (page : Sheet) (p : Place) → j < length pages → i < length page.places → page ≡ page_in pages j → IsPlaced pages (set pages j (with_place page i p)) j i p
IsPlaced-set pages j i page p within index is =
    let changed : Sheet = with_place page i p in
    let at : (k : ℕ) → page_in (set pages j changed) k ≡ cond (nat_eq j k) changed (page_in pages k) = λ k. at_set pages j k changed no_page within in
    let there : (k : ℕ) → nat_eq j k ≡ true → page ≡ page_in pages k = λ k e. is ∙ ap (page_in pages) (eqb-true j k e) in
    record {
      count = length-set pages j changed;
      levels = λ k. ap (λ (s : Sheet). s.level) (at k) ∙ cond_same (λ (s : Sheet). s.level) (nat_eq j k) changed (page_in pages k) (λ e. ap (λ (s : Sheet). s.level) (there k e));
      prefixes = λ k. ap (λ (s : Sheet). s.prefix) (at k) ∙ cond_same (λ (s : Sheet). s.prefix) (nat_eq j k) changed (page_in pages k) (λ e. ap (λ (s : Sheet). s.prefix) (there k e));
      places = λ k n.
          elim (cases_Bool (nat_eq j k)) [
            | inl same ↦
                ap (λ (s : Sheet). get_or s.places n no_place) (at k ∙ ap (λ b. cond b changed (page_in pages k)) same)
                ∙ at_set page.places i n p no_place index
                ∙ ap (λ (s : Sheet). cond (nat_eq i n) p (get_or s.places n no_place)) (there k same)
                ∙ ap (λ b. cond (b && nat_eq i n) p (place_in pages k n)) (sym same)
            | inr other ↦
                ap (λ (s : Sheet). get_or s.places n no_place) (at k ∙ ap (λ b. cond b changed (page_in pages k)) other)
                ∙ ap (λ b. cond (b && nat_eq i n) p (place_in pages k n)) (sym other)
          ];
    }

-- that is the place
is_place : (old : List Sheet) (j i k n : ℕ) → (nat_eq j k && nat_eq i n) ≡ true → place_in old j i ≡ place_in old k n
is_place old j i k n h =
    let parts = and_parts (nat_eq j k) (nat_eq i n) h in
    ap (λ m. place_in old m i) (eqb-true j k parts.0) ∙ ap (λ m. place_in old k m) (eqb-true i n parts.1)

-- ---- an entry kept in a place

abbrev pub kept_place : List Sheet → ℕ → ℕ → KeptEntry → Place
kept_place pages j i kept = let place : Place = place_in pages j i in record place { slot = with_kept kept place.slot }

SameTree-kept : (old new : List Sheet) (j i : ℕ) (kept : KeptEntry) → IsPlaced old new j i (kept_place old j i kept) → SameTree old new
SameTree-kept old new j i kept placed = record {
  count = placed.count;
  levels = placed.levels;
  prefixes = placed.prefixes;
  links = λ k n.
      ap (λ (p : Place). p.below) (placed.places k n)
      ∙ cond_same (λ (p : Place). p.below) (nat_eq j k && nat_eq i n) (kept_place old j i kept) (place_in old k n) (λ e. ap (λ (p : Place). p.below) (is_place old j i k n e));
}

slot_either : (b : Bool) (kept : KeptEntry) (p q : Place) → (b ≡ true → q ≡ p) → (cond b (record q { slot = with_kept kept q.slot }) p).slot ≡ cond b (with_kept kept p.slot) p.slot
slot_either true kept p q h = ap (λ (r : Place). with_kept kept r.slot) (h refl)
slot_either false kept p q h = refl

slot-kept : (old new : List Sheet) (j i k n : ℕ) (kept : KeptEntry) → IsPlaced old new j i (kept_place old j i kept) → (place_in new k n).slot ≡ cond (nat_eq j k && nat_eq i n) (with_kept kept (place_in old k n).slot) (place_in old k n).slot
slot-kept old new j i k n kept placed =
    ap (λ (p : Place). p.slot) (placed.places k n)
    ∙ slot_either (nat_eq j k && nat_eq i n) kept (place_in old k n) (place_in old j i) (is_place old j i k n)

-- the slot of a page that is found, or of none
slot_here : (old new : List Sheet) (j i n : ℕ) (kept : KeptEntry) (o : Option ℕ) → IsPlaced old new j i (kept_place old j i kept)
    → (o ≡ Some j) × (nat_eq i n ≡ true) → (place_of new o n).slot ≡ with_kept kept (place_of old o n).slot
slot_here old new j i n kept o placed mine =
    let P : Option ℕ → Type 0 = λ v. (place_of new v n).slot ≡ with_kept kept (place_of old v n).slot in
    let together : (nat_eq j j && nat_eq i n) ≡ true = and_from (nat_eq j j) (nat_eq i n) (eq-eqb j j refl) mine.1 in
    subst P (sym mine.0) (slot-kept old new j i j n kept placed ∙ ap (λ b. cond b (with_kept kept (place_in old j n).slot) (place_in old j n).slot) together)

slot_elsewhere : (old new : List Sheet) (j i n : ℕ) (kept : KeptEntry) (o : Option ℕ) → IsPlaced old new j i (kept_place old j i kept)
    → ((k : ℕ) → o ≡ Some k → (nat_eq j k && nat_eq i n) ≡ false) → (place_of new o n).slot ≡ (place_of old o n).slot
slot_elsewhere old new j i n kept None placed others = refl
slot_elsewhere old new j i n kept (Some k) placed others =
    slot-kept old new j i k n kept placed ∙ ap (λ b. cond b (with_kept kept (place_in old k n).slot) (place_in old k n).slot) (others k refl)

found_slot : (old new : List Sheet) (j i n : ℕ) (kept : KeptEntry) (o : Option ℕ) (b : Bool) → IsPlaced old new j i (kept_place old j i kept)
    → (b ≡ true → (o ≡ Some j) × (nat_eq i n ≡ true)) → (b ≡ false → (k : ℕ) → o ≡ Some k → (nat_eq j k && nat_eq i n) ≡ false)
    → (place_of new o n).slot ≡ cond b (with_kept kept (place_of old o n).slot) (place_of old o n).slot
found_slot old new j i n kept o true placed mine others = slot_here old new j i n kept o placed (mine refl)
found_slot old new j i n kept o false placed mine others = slot_elsewhere old new j i n kept o placed (others refl)

Keeps-placed : (old new : List Sheet) (level : Level) (number j : ℕ) (kept : KeptEntry) → IsTree old → page_at old level (number / 512) ≡ Some j → IsPlaced old new j (number % 512) (kept_place old j (number % 512) kept) → Keeps old new level number kept
unfolding slot_in
Keeps-placed old new level number j kept tree at placed = record {
  at = λ l n.
      ap (λ o. (place_of new o (n % 512)).slot) (page_at-same old new l (n / 512) (SameTree-kept old new j (number % 512) kept placed))
      ∙ found_slot old new j (number % 512) (n % 512) kept (page_at old l (n / 512)) (is_slot level number l n) placed
      (λ mine.
      let parts = and_parts (nat_eq (level_shift level) (level_shift l)) (nat_eq number n) mine in
      let levels : level ≡ l = level_same level l (eqb-true (level_shift level) (level_shift l) parts.0) in
      let numbers : number ≡ n = eqb-true number n parts.1 in
      (sym (ap (λ m. page_at old m (number / 512)) levels ∙ ap (λ m. page_at old l (m / 512)) numbers) ∙ at, eq-eqb (number % 512) (n % 512) (ap (λ m. m % 512) numbers)))
      (λ other k there.
      false_from_ne_true (nat_eq j k && nat_eq (number % 512) (n % 512))
      (λ both.
      let parts = and_parts (nat_eq j k) (nat_eq (number % 512) (n % 512)) both in
      let kept_at = named old level (number / 512) j tree at in
      let found_at = named old l (n / 512) k tree there in
      let page : j ≡ k = eqb-true j k parts.0 in
      let rest : number % 512 ≡ n % 512 = eqb-true (number % 512) (n % 512) parts.1 in
      let levels : level ≡ l = sym kept_at.level_is ∙ ap (λ m. (page_in old m).level) page ∙ found_at.level_is in
      let tops : number / 512 ≡ n / 512 = sym kept_at.prefix_is ∙ ap (λ m. (page_in old m).prefix) page ∙ found_at.prefix_is in
      let numbers : number ≡ n = omega (arith, rest, tops) in
      false≢true (sym other ∙ and_from (nat_eq (level_shift level) (level_shift l)) (nat_eq number n) (eq-eqb (level_shift level) (level_shift l) (ap level_shift levels)) (eq-eqb number n numbers))));
}

-- the page that an entry is kept in, found and read
pub record IsRead (pages : List Sheet) (j i : ℕ) (page : Sheet) : Type 0 where
  pub within : j < length pages
  pub read : page ≡ get_or pages j page
  pub full : length page.places ≡ 512
  pub index : i < 512

read_at : (pages : List Sheet) (j i : ℕ) (page : Sheet) → IsRead pages j i page → page ≡ page_in pages j
read_at pages j i page r = r.read ∙ get_or_default pages j page no_page r.within

placed_at : (pages : List Sheet) (j i : ℕ) (page : Sheet) (p : Place) → IsRead pages j i page → IsPlaced pages (set pages j (with_place page i p)) j i p
placed_at pages j i page p r = IsPlaced-set pages j i page p r.within (omega (arith, r.full, r.index)) (read_at pages j i page r)

abbrev pub kept_in : Sheet → ℕ → KeptEntry → Sheet
kept_in page i kept = let place : Place = get_or page.places i no_place in with_place page i (record place { slot = with_kept kept place.slot })

kept_in-placed : (pages : List Sheet) (j i : ℕ) (page : Sheet) (kept : KeptEntry) → IsRead pages j i page → IsPlaced pages (set pages j (kept_in page i kept)) j i (kept_place pages j i kept)
kept_in-placed pages j i page kept r =
    let place : Sheet → Place = λ s. get_or s.places i no_place in
    let P : Sheet → Type 0 = λ s. IsPlaced pages (set pages j (kept_in page i kept)) j i (record (place s) { slot = with_kept kept (place s).slot }) in
    subst P (read_at pages j i page r) (placed_at pages j i page _ r)

pub IsTree-kept : (pages : List Sheet) (j i : ℕ) (page : Sheet) (kept : KeptEntry) → IsTree pages → IsRead pages j i page → IsTree (set pages j (kept_in page i kept))
IsTree-kept pages j i page kept tree r =
    IsTree-same pages (set pages j (kept_in page i kept)) (SameTree-kept pages _ j i kept (kept_in-placed pages j i page kept r)) tree

pub Keeps-kept : (first pages : List Sheet) (level : Level) (number j : ℕ) (page : Sheet) (kept : KeptEntry) → IsSame first pages → IsTree pages → page_at pages level (number / 512) ≡ Some j → IsRead pages j (number % 512) page → Keeps first (set pages j (kept_in page (number % 512) kept)) level number kept
Keeps-kept first pages level number j page kept same tree at r =
    let keeps = Keeps-placed pages (set pages j (kept_in page (number % 512) kept)) level number j kept tree at (kept_in-placed pages j (number % 512) page kept r) in
    record { at = λ l n. keeps.at l n ∙ ap (λ s. cond (is_slot level number l n) (with_kept kept s) s) (same.at l n) }

-- ---- all pages without their tables

bare_pages : (old new : List Sheet) → ((j : ℕ) → IsBarePage (page_in old j) (page_in new j)) → length new ≡ length old → SameTree old new
bare_pages old new bared count = record {
  count = count;
  levels = λ k. (bared k).level;
  prefixes = λ k. (bared k).prefix;
  links = λ k n. ap (λ (p : Place). p.below) ((bared k).places n);
}

pub IsTree-bare : (old new : List Sheet) → ((j : ℕ) → IsBarePage (page_in old j) (page_in new j)) → length new ≡ length old → IsTree old → IsTree new
IsTree-bare old new bared count tree = IsTree-same old new (bare_pages old new bared count) tree

bare_slot : (old new : List Sheet) (i : ℕ) (o : Option ℕ) → ((j : ℕ) → IsBarePage (page_in old j) (page_in new j)) → (place_of new o i).slot ≡ bare (place_of old o i).slot
bare_slot old new i None bared = refl
bare_slot old new i (Some j) bared = ap (λ (p : Place). p.slot) ((bared j).places i)

pub IsBared-pages : (old new : List Sheet) → ((j : ℕ) → IsBarePage (page_in old j) (page_in new j)) → length new ≡ length old → IsTree old → IsBared old new
unfolding slot_in
IsBared-pages old new bared count tree = record {
  at = λ l n.
      ap (λ o. (place_of new o (n % 512)).slot) (page_at-same old new l (n / 512) (bare_pages old new bared count))
      ∙ bare_slot old new (n % 512) (page_at old l (n / 512)) bared;
}

-- ---- one page more

record IsGrown (old new : List Sheet) (parent index : ℕ) (level : Level) (prefix : ℕ) : Type 0 where
  count : length new ≡ length old + 1
  levels : (k : ℕ) → nat_eq (length old) k ≡ false → (page_in new k).level ≡ (page_in old k).level
  prefixes : (k : ℕ) → nat_eq (length old) k ≡ false → (page_in new k).prefix ≡ (page_in old k).prefix
  level_is : (page_in new (length old)).level ≡ level
  prefix_is : (page_in new (length old)).prefix ≡ prefix
  slots : (k n : ℕ) → (place_in new k n).slot ≡ (place_in old k n).slot
  links : (k n : ℕ) → (place_in new k n).below ≡ cond (nat_eq parent k && nat_eq index n) (Some (length old)) (place_in old k n).below

-- the page is the one that was found, or is new where there was none
abbrev IsFoundOr : ℕ → Option ℕ → Option ℕ → Type 0
IsFoundOr count new old = (new ≡ old) ⊎ ((new ≡ Some count) × (old ≡ None))

past : (pages : List Sheet) (n : ℕ) → place_in pages (length pages) n ≡ no_place
past pages n = ap (λ (s : Sheet). get_or s.places n no_place) (get_or_past pages (length pages) no_page (omega arith))

below-grown : (old new : List Sheet) (parent index : ℕ) (level : Level) (prefix : ℕ) (u o : Option ℕ) (i : ℕ) → IsGrown old new parent index level prefix → parent < length old → (place_in old parent index).below ≡ None → IsFoundOr (length old) u o → IsFoundOr (length old) (place_of new u i).below (place_of old o i).below
below-grown old new parent index level prefix u o i grown within free (inl same) =
    let P : Option ℕ → Type 0 = λ v. IsFoundOr (length old) (place_of new v i).below (place_of old o i).below in
    subst P (sym same)
    (elim o as (λ v. IsFoundOr (length old) (place_of new v i).below (place_of old v i).below) [
      | None ↦ inl refl
      | Some k ↦
          elim (cases_Bool (nat_eq parent k && nat_eq index i)) [
            | inl here ↦
                inr (grown.links k i ∙ ap (λ b. cond b (Some (length old)) (place_in old k i).below) here, sym (ap (λ (p : Place). p.below) (is_place old parent index k i here)) ∙ free)
            | inr other ↦ inl (grown.links k i ∙ ap (λ b. cond b (Some (length old)) (place_in old k i).below) other)
          ]
    ])
below-grown old new parent index level prefix u o i grown within free (inr fresh) =
    let n : ℕ = length old in
    let apart : nat_eq parent n ≡ false = false_from_ne_true (nat_eq parent n) (λ e. let same : parent ≡ n = eqb-true parent n e in omega (arith, within, same)) in
    let none : (place_in new n i).below ≡ None =
    grown.links n i ∙ ap (λ b. cond (b && nat_eq index i) (Some n) (place_in old n i).below) apart ∙ ap (λ (p : Place). p.below) (past old i) in
    inl (ap (λ v. (place_of new v i).below) fresh.0 ∙ none ∙ sym (ap (λ v. (place_of old v i).below) fresh.1))

three-grown : (old new : List Sheet) (parent index : ℕ) (level : Level) (prefix x : ℕ) → IsGrown old new parent index level prefix → parent < length old → (place_in old parent index).below ≡ None → IsFoundOr (length old) (page_three new x) (page_three old x)
three-grown old new parent index level prefix x grown within free =
    below-grown old new parent index level prefix (page_four new (x / 512)) (page_four old (x / 512)) (x % 512) grown within free (inl refl)

two-grown : (old new : List Sheet) (parent index : ℕ) (level : Level) (prefix x : ℕ) → IsGrown old new parent index level prefix → parent < length old → (place_in old parent index).below ≡ None → IsFoundOr (length old) (page_two new x) (page_two old x)
two-grown old new parent index level prefix x grown within free =
    below-grown old new parent index level prefix (page_three new (x / 512)) (page_three old (x / 512)) (x % 512) grown within free (three-grown old new parent index level prefix (x / 512) grown within free)

page_at-grown : (old new : List Sheet) (parent index : ℕ) (level : Level) (prefix : ℕ) (l : Level) (x : ℕ) → IsGrown old new parent index level prefix → parent < length old → (place_in old parent index).below ≡ None → IsFoundOr (length old) (page_at new l x) (page_at old l x)
page_at-grown old new parent index level prefix Four x grown within free = inl refl
page_at-grown old new parent index level prefix Three x grown within free = three-grown old new parent index level prefix x grown within free
page_at-grown old new parent index level prefix Two x grown within free = two-grown old new parent index level prefix x grown within free
page_at-grown old new parent index level prefix One x grown within free =
    below-grown old new parent index level prefix (page_two new (x / 512)) (page_two old (x / 512)) (x % 512) grown within free (two-grown old new parent index level prefix (x / 512) grown within free)

slot-grown : (old new : List Sheet) (parent index : ℕ) (level : Level) (prefix : ℕ) (u o : Option ℕ) (i : ℕ) → IsGrown old new parent index level prefix → IsFoundOr (length old) u o → (place_of new u i).slot ≡ (place_of old o i).slot
slot-grown old new parent index level prefix u o i grown (inl same) =
    ap (λ v. (place_of new v i).slot) same
    ∙ elim o as (λ v. (place_of new v i).slot ≡ (place_of old v i).slot) [ None ↦ refl | Some k ↦ grown.slots k i ]
slot-grown old new parent index level prefix u o i grown (inr fresh) =
    ap (λ v. (place_of new v i).slot) fresh.0 ∙ grown.slots (length old) i ∙ ap (λ (p : Place). p.slot) (past old i) ∙ sym (ap (λ v. (place_of old v i).slot) fresh.1)

IsSame-grown : (old new : List Sheet) (parent index : ℕ) (level : Level) (prefix : ℕ) → IsGrown old new parent index level prefix → parent < length old → (place_in old parent index).below ≡ None → IsSame old new
unfolding slot_in
IsSame-grown old new parent index level prefix grown within free = record {
  at = λ l n. slot-grown old new parent index level prefix (page_at new l (n / 512)) (page_at old l (n / 512)) (n % 512) grown (page_at-grown old new parent index level prefix l (n / 512) grown within free);
}

-- ---- a page added, and reached through a place

page_in-append : (pages : List Sheet) (page : Sheet) (k : ℕ) → page_in (pages ++ page ∷ []) k ≡ cond (nat_eq (length pages) k) page (page_in pages k)
page_in-append pages page k =
    elim (cases_Bool (nat_eq (length pages) k)) [
      | inl same ↦ get_or_push pages page no_page k (eqb-true (length pages) k same) ∙ ap (λ b. cond b page (page_in pages k)) (sym same)
      | inr other ↦
          let apart : length pages ≡ k → ⊥ = λ e. false≢true (sym other ∙ eq-eqb (length pages) k e) in
          elim (cases_lt k (length pages)) [
            | inl within ↦ get_or_append_left pages (page ∷ []) no_page k within
            | inr beyond ↦
                let more : length (pages ++ page ∷ []) ≤ k = omega (arith, length-append pages (page ∷ []), beyond, apart) in
                get_or_past (pages ++ page ∷ []) k no_page more ∙ sym (get_or_past pages k no_page beyond)
          ]
          ∙ ap (λ b. cond b page (page_in pages k)) (sym other)
    ]

all_empty : (count i : ℕ) → get_or (replicate count no_place) i no_place ≡ no_place
all_empty count i =
    elim (cases_lt i count) [
      | inl within ↦ get_or-replicate count i no_place no_place within
      | inr beyond ↦ get_or_past (replicate count no_place) i no_place (omega (arith, length-replicate count no_place, beyond))
    ]

empty_places : (level : Level) (prefix i : ℕ) → get_or (empty_page level prefix).places i no_place ≡ no_place
empty_places level prefix i = all_empty 512 i

place_in-append : (pages : List Sheet) (level : Level) (prefix k n : ℕ) → place_in (pages ++ empty_page level prefix ∷ []) k n ≡ place_in pages k n
place_in-append pages level prefix k n =
    ap (λ (s : Sheet). get_or s.places n no_place) (page_in-append pages (empty_page level prefix) k)
    ∙ cond_same (λ (s : Sheet). get_or s.places n no_place) (nat_eq (length pages) k) (empty_page level prefix) (page_in pages k)
    (λ e. empty_places level prefix n ∙ sym (ap (λ m. place_in pages m n) (sym (eqb-true (length pages) k e)) ∙ past pages n))

abbrev pub linked : Sheet → ℕ → ℕ → Sheet
linked page i number = let place : Place = get_or page.places i no_place in with_place page i (record place { below = Some number })

abbrev pub grown_by : List Sheet → ℕ → ℕ → Level → ℕ → Sheet → List Sheet
grown_by pages parent index level prefix page = set (pages ++ empty_page level prefix ∷ []) parent (linked page index (length pages))

slot_stays : (b : Bool) (p q : Place) (number : ℕ) → (b ≡ true → q ≡ p) → (cond b (record q { below = Some number }) p).slot ≡ p.slot
slot_stays true p q number h = ap (λ (r : Place). r.slot) (h refl)
slot_stays false p q number h = refl

below_either : (b : Bool) (p q : Place) (number : ℕ) → (cond b (record q { below = Some number }) p).below ≡ cond b (Some number) p.below
below_either true p q number = refl
below_either false p q number = refl

IsGrown-linked : (pages : List Sheet) (parent index : ℕ) (level : Level) (prefix : ℕ) (page : Sheet) → IsRead (pages ++ empty_page level prefix ∷ []) parent index page → IsGrown pages (grown_by pages parent index level prefix page) parent index level prefix
IsGrown-linked pages parent index level prefix page read =
    let more : List Sheet = pages ++ empty_page level prefix ∷ [] in
    let n : ℕ = length pages in
    let place : Place = get_or page.places index no_place in
    let placed : IsPlaced more (grown_by pages parent index level prefix page) parent index (record place { below = Some n }) = placed_at more parent index page (record place { below = Some n }) read in
    let own : (k m : ℕ) → (nat_eq parent k && nat_eq index m) ≡ true → place ≡ place_in more k m =
    λ k m e. ap (λ (s : Sheet). get_or s.places index no_place) (read_at more parent index page read) ∙ is_place more parent index k m e in
    let at : (k : ℕ) → page_in more k ≡ cond (nat_eq n k) (empty_page level prefix) (page_in pages k) = page_in-append pages (empty_page level prefix) in
    record {
      count = placed.count ∙ length-append pages (empty_page level prefix ∷ []);
      levels = λ k other. placed.levels k ∙ ap (λ (s : Sheet). s.level) (at k ∙ ap (λ b. cond b (empty_page level prefix) (page_in pages k)) other);
      prefixes = λ k other. placed.prefixes k ∙ ap (λ (s : Sheet). s.prefix) (at k ∙ ap (λ b. cond b (empty_page level prefix) (page_in pages k)) other);
      level_is = placed.levels n ∙ ap (λ (s : Sheet). s.level) (at n ∙ ap (λ b. cond b (empty_page level prefix) (page_in pages n)) (eq-eqb n n refl));
      prefix_is = placed.prefixes n ∙ ap (λ (s : Sheet). s.prefix) (at n ∙ ap (λ b. cond b (empty_page level prefix) (page_in pages n)) (eq-eqb n n refl));
      slots = λ k m.
          ap (λ (p : Place). p.slot) (placed.places k m)
          ∙ slot_stays (nat_eq parent k && nat_eq index m) (place_in more k m) place n (own k m)
          ∙ ap (λ (p : Place). p.slot) (place_in-append pages level prefix k m);
      links = λ k m.
          ap (λ (p : Place). p.below) (placed.places k m)
          ∙ below_either (nat_eq parent k && nat_eq index m) (place_in more k m) place n
          ∙ ap (λ (p : Place). cond (nat_eq parent k && nat_eq index m) (Some n) p.below) (place_in-append pages level prefix k m);
    }

-- ---- the page above, and the page below

page_at-above : (pages : List Sheet) (level : Level) (prefix above : ℕ) → IsAbove pages level prefix above → page_at pages level prefix ≡ (place_in pages above (prefix % 512)).below
page_at-above pages Four prefix above h = absurd h
page_at-above pages Three prefix above h = ap (λ o. (place_of pages o (prefix % 512)).below) h.at
page_at-above pages Two prefix above h = ap (λ o. (place_of pages o (prefix % 512)).below) h.at
page_at-above pages One prefix above h = ap (λ o. (place_of pages o (prefix % 512)).below) h.at

pub within-above : (pages : List Sheet) (level : Level) (prefix above : ℕ) → IsAbove pages level prefix above → above < length pages
within-above pages Four prefix above h = absurd h
within-above pages Three prefix above h = h.within
within-above pages Two prefix above h = h.within
within-above pages One prefix above h = h.within

pub below_found : (pages : List Sheet) (level : Level) (prefix above j : ℕ) → IsTree pages → IsAbove pages level prefix above → (place_in pages above (prefix % 512)).below ≡ Some j → IsPageFor pages level prefix j
below_found pages level prefix above j tree h is = record {
  at = page_at-above pages level prefix above h ∙ is;
  within = (tree.children above (prefix % 512) j is).within;
}

named_above : (pages : List Sheet) (l : Level) (prefix above : ℕ) → IsTree pages → page_at pages l (prefix / 512) ≡ Some above → ((page_in pages above).level ≡ l) × (prefix ≡ (page_in pages above).prefix * 512 + prefix % 512)
named_above pages l prefix above tree at =
    let name = named pages l (prefix / 512) above tree at in
    let whole : prefix ≡ prefix / 512 * 512 + prefix % 512 = omega arith in
    (name.level_is, whole ∙ ap (λ x. x * 512 + prefix % 512) (sym name.prefix_is))

stands_above : (pages : List Sheet) (level : Level) (prefix above : ℕ) → IsTree pages → IsAbove pages level prefix above → (level ≡ below (page_in pages above).level) × (prefix ≡ (page_in pages above).prefix * 512 + prefix % 512)
stands_above pages Four prefix above tree h = absurd h
stands_above pages Three prefix above tree h = let n = named_above pages Four prefix above tree h.at in (ap below (sym n.0), n.1)
stands_above pages Two prefix above tree h = let n = named_above pages Three prefix above tree h.at in (ap below (sym n.0), n.1)
stands_above pages One prefix above tree h = let n = named_above pages Two prefix above tree h.at in (ap below (sym n.0), n.1)

not_new : (count : ℕ) (u o : Option ℕ) (k : ℕ) → IsFoundOr count u o → o ≡ Some k → u ≡ Some k
not_new count u o k (inl same) h = same ∙ h
not_new count u o k (inr fresh) h = absurd (let e : None ≡ Some k = sym fresh.1 ∙ h in cc)

still_above : (old new : List Sheet) (parent index : ℕ) (level : Level) (prefix : ℕ) (l : Level) (x : ℕ) → IsGrown old new parent index level prefix → parent < length old → (place_in old parent index).below ≡ None → IsPageFor old l x parent → IsPageFor new l x parent
still_above old new parent index level prefix l x grown within free h = record {
  at = not_new (length old) (page_at new l x) (page_at old l x) parent (page_at-grown old new parent index level prefix l x grown within free) h.at;
  within = omega (arith, grown.count, h.within);
}

above-grown : (old new : List Sheet) (parent index : ℕ) (level : Level) (prefix : ℕ) → IsGrown old new parent index level prefix → parent < length old → (place_in old parent index).below ≡ None → IsAbove old level prefix parent → IsAbove new level prefix parent
above-grown old new parent index Four prefix grown within free h = h
above-grown old new parent index Three prefix grown within free h = still_above old new parent index Three prefix Four (prefix / 512) grown within free h
above-grown old new parent index Two prefix grown within free h = still_above old new parent index Two prefix Three (prefix / 512) grown within free h
above-grown old new parent index One prefix grown within free h = still_above old new parent index One prefix Two (prefix / 512) grown within free h

IsTree-grown : (old new : List Sheet) (parent index : ℕ) (level : Level) (prefix : ℕ) → IsTree old → IsGrown old new parent index level prefix → parent < length old → level ≡ below (page_in old parent).level → prefix ≡ (page_in old parent).prefix * 512 + index → IsTree new
IsTree-grown old new parent index level prefix tree grown within level_is prefix_is =
    let n : ℕ = length old in
    let apart : (k : ℕ) → k < n → nat_eq n k ≡ false = λ k h. false_from_ne_true (nat_eq n k) (λ e. let same : n ≡ k = eqb-true n k e in omega (arith, h, same)) in
    let first : nat_eq n 0 ≡ false = apart 0 (omega (arith, within)) in
    record {
      level = grown.levels 0 first ∙ tree.level;
      prefix = grown.prefixes 0 first ∙ tree.prefix;
      children = λ j i k h.
          elim (cases_Bool (nat_eq parent j && nat_eq index i)) [
            | inl here ↦
                let parts = and_parts (nat_eq parent j) (nat_eq index i) here in
                let page : parent ≡ j = eqb-true parent j parts.0 in
                let place : index ≡ i = eqb-true index i parts.1 in
                let is : Some n ≡ Some k = sym (grown.links j i ∙ ap (λ b. cond b (Some n) (place_in old j i).below) here) ∙ h in
                let number : n ≡ k = cc in
                let P : ℕ → Type 0 = λ m. IsChild new j i m in
                let parent_apart : nat_eq n j ≡ false = apart j (omega (arith, within, page)) in
                subst P number (record {
                  within = omega (arith, grown.count);
                  level = grown.level_is ∙ level_is ∙ ap (λ m. below (page_in old m).level) page ∙ ap below (sym (grown.levels j parent_apart));
                  prefix =
                      grown.prefix_is ∙ prefix_is ∙ ap (λ m. (page_in old m).prefix * 512 + index) page
                      ∙ ap (λ m. (page_in old j).prefix * 512 + m) place
                      ∙ ap (λ x. x * 512 + i) (sym (grown.prefixes j parent_apart));
                })
            | inr other ↦
                let was : (place_in old j i).below ≡ Some k = sym (grown.links j i ∙ ap (λ b. cond b (Some n) (place_in old j i).below) other) ∙ h in
                let child = tree.children j i k was in
                let child_apart : nat_eq n k ≡ false = apart k child.within in
                let page_apart : nat_eq n j ≡ false =
                false_from_ne_true (nat_eq n j) (λ e. let none : None ≡ Some k = sym (ap (λ m. (place_in old m i).below) (sym (eqb-true n j e)) ∙ ap (λ (p : Place). p.below) (past old i)) ∙ was in cc) in
                record {
                  within = omega (arith, grown.count, child.within);
                  level = grown.levels k child_apart ∙ child.level ∙ ap below (sym (grown.levels j page_apart));
                  prefix = grown.prefixes k child_apart ∙ child.prefix ∙ ap (λ x. x * 512 + i) (sym (grown.prefixes j page_apart));
                }
          ];
    }

pub IsTree-linked : (pages : List Sheet) (parent : ℕ) (level : Level) (prefix : ℕ) (page : Sheet) → IsTree pages → IsAbove pages level prefix parent → IsRead (pages ++ empty_page level prefix ∷ []) parent (prefix % 512) page → IsTree (grown_by pages parent (prefix % 512) level prefix page)
IsTree-linked pages parent level prefix page tree above read =
    let stands = stands_above pages level prefix parent tree above in
    IsTree-grown pages _ parent (prefix % 512) level prefix tree (IsGrown-linked pages parent (prefix % 512) level prefix page read) (within-above pages level prefix parent above) stands.0 stands.1

pub HasPage-linked : (pages : List Sheet) (parent : ℕ) (level : Level) (prefix : ℕ) (page : Sheet) → IsAbove pages level prefix parent → (place_in pages parent (prefix % 512)).below ≡ None → IsRead (pages ++ empty_page level prefix ∷ []) parent (prefix % 512) page → HasPage pages (grown_by pages parent (prefix % 512) level prefix page) level prefix (Ok (length pages))
HasPage-linked pages parent level prefix page above free read =
    let index : ℕ = prefix % 512 in
    let new : List Sheet = grown_by pages parent index level prefix page in
    let grown : IsGrown pages new parent index level prefix = IsGrown-linked pages parent index level prefix page read in
    let within : parent < length pages = within-above pages level prefix parent above in
    let here : (nat_eq parent parent && nat_eq index index) ≡ true = and_from (nat_eq parent parent) (nat_eq index index) (eq-eqb parent parent refl) (eq-eqb index index refl) in
    record {
      here = record {
        at =
            page_at-above new level prefix parent (above-grown pages new parent index level prefix grown within free above)
            ∙ grown.links parent index
            ∙ ap (λ b. cond b (Some (length pages)) (place_in pages parent index).below) here;
        within = omega (arith, grown.count);
      };
      same = IsSame-grown pages new parent index level prefix grown within free;
    }

-- ---- the first page

first_place : (k n : ℕ) → place_in (empty_page Four 0 ∷ []) k n ≡ no_place
first_place k n = place_in-append [] Four 0 k n

pub IsTree-first : IsTree (empty_page Four 0 ∷ [])
IsTree-first = record {
  level = refl;
  prefix = refl;
  children = λ j i k h. let none : None ≡ Some k = sym (ap (λ (p : Place). p.below) (first_place j i)) ∙ h in absurd (cc);
}

same_first : (u o : Option ℕ) (i : ℕ) → u ≡ o → place_of (empty_page Four 0 ∷ []) u i ≡ place_of [] o i
same_first u o i e =
    ap (λ v. place_of (empty_page Four 0 ∷ []) v i) e
    ∙ elim o as (λ v. place_of (empty_page Four 0 ∷ []) v i ≡ place_of [] v i) [ None ↦ refl | Some k ↦ first_place k i ]

below_first : (u o : Option ℕ) (i : ℕ) → u ≡ o → (place_of (empty_page Four 0 ∷ []) u i).below ≡ (place_of [] o i).below
below_first u o i e = ap (λ (p : Place). p.below) (same_first u o i e)

page_at-first : (l : Level) (x : ℕ) → page_at (empty_page Four 0 ∷ []) l x ≡ page_at [] l x
page_at-first Four x = refl
page_at-first Three x = below_first (page_four [] (x / 512)) (page_four [] (x / 512)) (x % 512) refl
page_at-first Two x = below_first _ _ (x % 512) (below_first (page_four [] (x / 512 / 512)) (page_four [] (x / 512 / 512)) (x / 512 % 512) refl)
page_at-first One x = below_first _ _ (x % 512) (below_first _ _ (x / 512 % 512) (below_first (page_four [] (x / 512 / 512 / 512)) (page_four [] (x / 512 / 512 / 512)) (x / 512 / 512 % 512) refl))

IsSame-first : IsSame [] (empty_page Four 0 ∷ [])
unfolding slot_in
IsSame-first = record { at = λ l n. ap (λ (p : Place). p.slot) (same_first (page_at (empty_page Four 0 ∷ []) l (n / 512)) (page_at [] l (n / 512)) (n % 512) (page_at-first l (n / 512))) }

pub HasPage-first : HasPage [] (empty_page Four 0 ∷ []) Four 0 (Ok 0)
HasPage-first = record { here = record { at = refl; within = omega arith }; same = IsSame-first }

-- ---- the walk

pub path_in-walk : (pages : List Sheet) (la : ℕ) (four three two one : Place)
    → four ≡ place_of pages (Some 0) (bits_from 39 la % 512) → three ≡ place_of pages four.below (bits_from 30 la % 512)
    → two ≡ place_of pages three.below (bits_from 21 la % 512) → one ≡ place_of pages two.below (bits_from 12 la % 512)
    → record { four = four.slot; three = three.slot; two = two.slot; one = one.slot } ≡ path_in pages la
unfolding slot_in
path_in-walk pages la four three two one a b c d =
    let zero : bits_from 39 la / 512 ≡ 0 = omega arith in
    let upper : bits_from 30 la / 512 ≡ bits_from 39 la = omega arith in
    let middle : bits_from 21 la / 512 ≡ bits_from 30 la = omega arith in
    let lower : bits_from 12 la / 512 ≡ bits_from 21 la = omega arith in
    let at_four : page_four pages (bits_from 39 la / 512) ≡ Some 0 = ap (page_four pages) zero in
    let place_four : place_of pages (page_four pages (bits_from 39 la / 512)) (bits_from 39 la % 512) ≡ four = ap (λ o. place_of pages o (bits_from 39 la % 512)) at_four ∙ sym a in
    let at_three : page_three pages (bits_from 30 la / 512) ≡ four.below = ap (page_three pages) upper ∙ ap (λ (p : Place). p.below) place_four in
    let place_three : place_of pages (page_three pages (bits_from 30 la / 512)) (bits_from 30 la % 512) ≡ three = ap (λ o. place_of pages o (bits_from 30 la % 512)) at_three ∙ sym b in
    let at_two : page_two pages (bits_from 21 la / 512) ≡ three.below = ap (page_two pages) middle ∙ ap (λ (p : Place). p.below) place_three in
    let place_two : place_of pages (page_two pages (bits_from 21 la / 512)) (bits_from 21 la % 512) ≡ two = ap (λ o. place_of pages o (bits_from 21 la % 512)) at_two ∙ sym c in
    let at_one : page_one pages (bits_from 12 la / 512) ≡ two.below = ap (page_one pages) lower ∙ ap (λ (p : Place). p.below) place_two in
    let place_one : place_of pages (page_one pages (bits_from 12 la / 512)) (bits_from 12 la % 512) ≡ one = ap (λ o. place_of pages o (bits_from 12 la % 512)) at_one ∙ sym d in
    λ i. record { four = (sym place_four i).slot; three = (sym place_three i).slot; two = (sym place_two i).slot; one = (sym place_one i).slot }

-- ---- no page has a table

pub IsBarePage-nothing : IsBarePage no_page no_page
IsBarePage-nothing = record { level = refl; prefix = refl; places = λ i. refl }

-- ---- numbers whose page is not there

pub slot_in-missing : (pages : List Sheet) (level : Level) (number : ℕ) → page_at pages level (number / 512) ≡ None → slot_in pages level number ≡ no_slot
unfolding slot_in
slot_in-missing pages level number none = ap (λ o. (place_of pages o (number % 512)).slot) none

pub slot_in-beyond : (pages : List Sheet) (level : Level) (number j : ℕ) → page_at pages level (number / 512) ≡ Some j → length pages ≤ j → slot_in pages level number ≡ no_slot
unfolding slot_in
slot_in-beyond pages level number j at beyond =
    ap (λ o. (place_of pages o (number % 512)).slot) at
    ∙ ap (λ (page : Sheet). (get_or page.places (number % 512) no_place).slot) (get_or_past pages j no_page beyond)

-- ---- slots emptied

emptied : (b : Bool) (s : Slot) → (b ≡ true → s ≡ no_slot) → s ≡ cond b no_slot s
emptied true s h = h refl
emptied false s h = refl

-- a slot that is empty stays so
pub Keeps-empty : (pages : List Sheet) (level : Level) (number : ℕ) → slot_in pages level number ≡ no_slot → Keeps pages pages level number Neither
Keeps-empty pages level number none = record {
  at = λ l n.
      emptied (is_slot level number l n) (slot_in pages l n)
      (λ same.
      let parts = and_parts (nat_eq (level_shift level) (level_shift l)) (nat_eq number n) same in
      let levels : level ≡ l = level_same level l (eqb-true (level_shift level) (level_shift l) parts.0) in
      sym (ap (λ m. slot_in pages m number) levels ∙ ap (slot_in pages l) (eqb-true number n parts.1)) ∙ none);
}

-- the slots on the path of an address are emptied one after another
pub IsForgotten-steps : (la : ℕ) (a b c d e : List Sheet) → Keeps a b Four (bits_from 39 la) Neither → Keeps b c Three (bits_from 30 la) Neither
    → Keeps c d Two (bits_from 21 la) Neither → Keeps d e One (bits_from 12 la) Neither → IsForgotten la a e
IsForgotten-steps la a b c d e four three two one = record {
  at = λ l. elim l as (λ l. (n : ℕ) → slot_in e l n ≡ cond (is_on_path l n la) no_slot (slot_in a l n)) [
    | Four ↦ λ n. one.at Four n ∙ two.at Four n ∙ three.at Four n ∙ four.at Four n ∙ ap (λ t. cond t no_slot (slot_in a Four n)) (nat_eq-comm (bits_from 39 la) n)
    | Three ↦ λ n. one.at Three n ∙ two.at Three n ∙ three.at Three n ∙ ap (λ s. cond (nat_eq (bits_from 30 la) n) no_slot s) (four.at Three n) ∙ ap (λ t. cond t no_slot (slot_in a Three n)) (nat_eq-comm (bits_from 30 la) n)
    | Two ↦ λ n. one.at Two n ∙ two.at Two n ∙ ap (λ s. cond (nat_eq (bits_from 21 la) n) no_slot s) (three.at Two n ∙ four.at Two n) ∙ ap (λ t. cond t no_slot (slot_in a Two n)) (nat_eq-comm (bits_from 21 la) n)
    | One ↦ λ n. one.at One n ∙ ap (λ s. cond (nat_eq (bits_from 12 la) n) no_slot s) (two.at One n ∙ three.at One n ∙ four.at One n) ∙ ap (λ t. cond t no_slot (slot_in a One n)) (nat_eq-comm (bits_from 12 la) n)
  ];
}
