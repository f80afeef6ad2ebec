-- What a look-up finds is kept and may be used; where it finds nothing, there is nothing.
use Rattle.std.proofs.Common.{◌≡◌, ℕ, ◌<◌, Bool, true, false, Option, Some, None, refl, arith}
use Rattle.std.specs.Option.{IfSome}
use Rattle.std.proofs.lemmas.Bool.{cond_both}
use Rattle.pg_entry.specs.declared.AccessKind.{AccessKind}
use Rattle.pg_entry.specs.declared.Level.TheVariants.{Four, Three, Two, One}
use Rattle.pg_event.specs.Heads.{Head}
use Rattle.pg_event.specs.Invalidation.{level_shift, structure_key, translation_key}
use Rattle.pg_shadow.specs.declared.entries.KeptTable.{KeptTable}
use Rattle.pg_shadow.specs.declared.entries.KeptLeaf.{KeptLeaf}
use Rattle.pg_shadow.specs.declared.entries.Found.{Found}
use Rattle.pg_shadow.specs.declared.entries.Found.TheVariants.{Hit, Miss}
use Rattle.pg_shadow.specs.Caches.{Caches, is_table_level, is_page_shift}
use Rattle.pg_shadow.specs.Find.{is_usable, leaf_or, page_or, table_or, found, HasNoPage, HasNoTable, IsFound}
use Rattle.pg_shadow.proofs.Shadows.{page_cases}

-- what a look-up passes over: no translation, or one that may not be used
abbrev IsPassed : Head → AccessKind → Option KeptLeaf → Type 0
IsPassed head kind o = IfSome o (λ leaf. is_usable head kind leaf ≡ false)

leaf_either : (P : Found → Type 0) (head : Head) (kind : AccessKind) (shift : ℕ) (global : Bool) (o : Option KeptLeaf) (other : Found)
    → ((leaf : KeptLeaf) → o ≡ Some leaf → is_usable head kind leaf ≡ true → P (Hit leaf.frame shift leaf.rights global leaf.moments)) → (IsPassed head kind o → P other)
    → P (leaf_or head kind shift global o other)
leaf_either P head kind shift global None other hit miss = miss tt
leaf_either P head kind shift global (Some leaf) other hit miss =
    cond_both (is_usable head kind leaf) (Hit leaf.frame shift leaf.rights global leaf.moments) other P (hit leaf refl) miss

page_either : (s : Caches) (la : ℕ) (head : Head) (kind : AccessKind) (shift : ℕ) (other : Found) → is_page_shift shift ≡ true
    → (((global : Bool) → IsPassed head kind (s.leaves (translation_key s.control.pcid shift global la))) → IsFound s la head kind other)
    → IsFound s la head kind (page_or s la head kind shift other)
page_either s la head kind shift other size miss =
    let P : Found → Type 0 = IsFound s la head kind in
    let at : Bool → Option KeptLeaf = λ global. s.leaves (translation_key s.control.pcid shift global la) in
    let hit : (global : Bool) (leaf : KeptLeaf) → at global ≡ Some leaf → is_usable head kind leaf ≡ true → P (Hit leaf.frame shift leaf.rights global leaf.moments) =
    λ global leaf kept usable. record { leaf = leaf; kept = kept; usable = usable; size = size; frame_is = refl; rights_are = refl; moments_are = refl } in
    leaf_either P head kind shift false (at false) (leaf_or head kind shift true (at true) other) (hit false)
    (λ own. leaf_either P head kind shift true (at true) other (hit true)
    (λ all. miss (λ global. elim global as (λ b. IsPassed head kind (at b)) [ true ↦ all | false ↦ own ])))

-- no table at a level, where those with lower shifts have none
no_table : (s : Caches) (la shift : ℕ) → (level_shift Two < shift → s.tables (structure_key s.control.pcid Two la) ≡ None) → (level_shift Three < shift → s.tables (structure_key s.control.pcid Three la) ≡ None)
    → (level_shift Four < shift → s.tables (structure_key s.control.pcid Four la) ≡ None) → HasNoTable s la shift
no_table s la shift two three four = record {
  at = λ level. elim level as (λ l. is_table_level l ≡ true → level_shift l < shift → s.tables (structure_key s.control.pcid l la) ≡ None) [
    | Four ↦ λ refers below. four below
    | Three ↦ λ refers below. three below
    | Two ↦ λ refers below. two below
    | One ↦ λ refers below. absurd (cc)
  ];
}

table_found : (s : Caches) (la : ℕ) (head : Head) (kind : AccessKind) (two three four : Option KeptTable)
    → s.tables (structure_key s.control.pcid Two la) ≡ two → s.tables (structure_key s.control.pcid Three la) ≡ three → s.tables (structure_key s.control.pcid Four la) ≡ four
    → HasNoPage s la head kind → IsFound s la head kind (table_or Two two (table_or Three three (table_or Four four Miss)))
table_found s la head kind (Some t) three four a b c pages = (a, no_table s la 21 (λ h. absurd (omega (arith, h))) (λ h. absurd (omega (arith, h))) (λ h. absurd (omega (arith, h))), pages)
table_found s la head kind None (Some t) four a b c pages = (b, no_table s la 30 (λ h. a) (λ h. absurd (omega (arith, h))) (λ h. absurd (omega (arith, h))), pages)
table_found s la head kind None None (Some t) a b c pages = (c, no_table s la 39 (λ h. a) (λ h. b) (λ h. absurd (omega (arith, h))), pages)
table_found s la head kind None None None a b c pages = (no_table s la 48 (λ h. a) (λ h. b) (λ h. c), pages)

pub IsFound-found : (s : Caches) (la : ℕ) (head : Head) (kind : AccessKind) → IsFound s la head kind (found s la head kind)
IsFound-found s la head kind =
    page_either s la head kind 12 _ refl (λ small.
    page_either s la head kind 21 _ refl (λ large.
    page_either s la head kind 30 _ refl (λ giant.
    table_found s la head kind _ _ _ refl refl refl
    (record { at = λ shift global size. page_cases (λ n. IsPassed head kind (s.leaves (translation_key s.control.pcid n global la))) shift size (small global) (large global) (giant global) }))))
