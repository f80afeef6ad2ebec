-- What the stepper's tests of its lists say of the state of the definition.
use Rattle.std.proofs.Common.{◌≡◌, ℕ, List, [], ◌∷◌, Bool, true, false, refl, ap, subst, ◌∙◌, sym, ⊎_elim, inl, inr}
use Rattle.std.specs.List.{list_any}
use Rattle.std.proofs.lemmas.Bool.{or_cases, or_left, or_right, and_parts, and_from, eqb-true, eq-eqb}
use Rattle.pg_entry.specs.declared.Level.{Level}
use Rattle.pg_entry.specs.declared.Level.TheVariants.{Four, Three, Two, One}
use Rattle.pg_entry.specs.Permission.{all_rights}
use Rattle.pg_event.specs.declared.walk.Parent.{Parent}
use Rattle.pg_machine.specs.declared.step.Structure.{Structure}
use Rattle.pg_machine.specs.declared.step.Translation.{Translation}
use Rattle.pg_machine.specs.declared.step.Member.{Member}
use Rattle.pg_machine.specs.declared.step.Member.TheVariants as members
use Rattle.pg_event.specs.declared.control.Control.{Control}
use Rattle.pg_event.specs.Walk.{root_of}
use Rattle.pg_machine.specs.Listed.{Listed, processor_at, state_of}
use Rattle.pg_machine.specs.Machine.{IsIn, MayRead, HasMember, same_structure, same_translation}
use Rattle.pg_machine.specs.Stepping.{is_root, may_read, has_member}
use Rattle.pg_machine.proofs.Same.{same_bool, rights_itself, structure_same, same_structure-itself, translation_same, same_translation-itself}

-- some member passes a test
pub passes : {X : Type 0} (test : X → Bool) (xs : List X) → list_any test xs ≡ true → (x : X) × IsIn x xs × (test x ≡ true)
passes test [] h = cc
passes test (y ∷ ys) h =
    ⊎_elim (λ here. (y, inl refl, here))
    (λ later. let found = passes test ys later in (found.0, inr found.1, found.2))
    (or_cases (test y) (list_any test ys) h)

pub any_passes : {X : Type 0} (test : X → Bool) (x : X) (xs : List X) → IsIn x xs → test x ≡ true → list_any test xs ≡ true
any_passes test x [] h pass = absurd h
any_passes test x (y ∷ ys) h pass =
    ⊎_elim (λ here. or_left (test y) (list_any test ys) (ap test here ∙ pass))
    (λ later. or_right (test y) (list_any test ys) (any_passes test x ys later pass))
    h

pub structure_in : (x : Structure) (xs : List Structure) → list_any (same_structure x) xs ≡ true → IsIn x xs
structure_in x xs h =
    let found = passes (same_structure x) xs h in
    let P : Structure → Type 0 = λ y. IsIn y xs in
    subst P (sym (structure_same x found.0 found.2)) found.1

pub in_structures : (x : Structure) (xs : List Structure) → IsIn x xs → list_any (same_structure x) xs ≡ true
in_structures x xs h = any_passes (same_structure x) x xs h (same_structure-itself x)

pub translation_in : (x : Translation) (xs : List Translation) → list_any (same_translation x) xs ≡ true → IsIn x xs
translation_in x xs h =
    let found = passes (same_translation x) xs h in
    let P : Translation → Type 0 = λ y. IsIn y xs in
    subst P (sym (translation_same x found.0 found.2)) found.1

pub in_translations : (x : Translation) (xs : List Translation) → IsIn x xs → list_any (same_translation x) xs ≡ true
in_translations x xs h = any_passes (same_translation x) x xs h (same_translation-itself x)

pub member_in : (l : Listed) (p : ℕ) (x : Member) → has_member (processor_at l.processors p) x ≡ true → HasMember (state_of l) p x
member_in l p (members.Structure x) h = structure_in x _ h
member_in l p (members.Translation x) h = translation_in x _ h

pub in_members : (l : Listed) (p : ℕ) (x : Member) → HasMember (state_of l) p x → has_member (processor_at l.processors p) x ≡ true
in_members l p (members.Structure x) h = in_structures x _ h
in_members l p (members.Translation x) h = in_translations x _ h

-- a parent by its parts
parent_of : ℕ → Bool → Bool → Bool → Parent
parent_of table write user xd = record { table = table; rights = record { write = write; user = user; xd = xd } }

parent_of-parts : (a : Parent) → parent_of a.table a.rights.write a.rights.user a.rights.xd ≡ a
unfolding parent_of
parent_of-parts a = refl

parent_of-root : (c : Control) → parent_of c.root true true false ≡ root_of c
unfolding parent_of
parent_of-root c = refl

pub is_root_from : (c : Control) (from : Parent) → is_root c from ≡ true → from ≡ root_of c
is_root_from c from h =
    let parts = and_parts _ _ h in
    let xd = and_parts _ _ parts.1 in
    let user = and_parts _ _ xd.0 in
    let at : from.table ≡ c.root = eqb-true _ _ parts.0 in
    let write : from.rights.write ≡ true = same_bool _ _ user.0 in
    let mode : from.rights.user ≡ true = same_bool _ _ user.1 in
    let no : from.rights.xd ≡ false = same_bool _ _ xd.1 in
    cc (parent_of-parts from, parent_of-root c)

pub is_root-at : (c : Control) (from : Parent) → from ≡ root_of c → is_root c from ≡ true
is_root-at c from h =
    ap (is_root c) h ∙ and_from _ _ (eq-eqb c.root c.root refl) (rights_itself all_rights)

pub reads : (l : Listed) (p la : ℕ) (level : Level) (from : Parent) → may_read (processor_at l.processors p) la level from ≡ true → MayRead (state_of l) p la level from
reads l p la Four from h = is_root_from (processor_at l.processors p).control from h
reads l p la Three from h = structure_in _ _ h
reads l p la Two from h = structure_in _ _ h
reads l p la One from h = structure_in _ _ h

pub may_read-from : (l : Listed) (p la : ℕ) (level : Level) (from : Parent) → MayRead (state_of l) p la level from → may_read (processor_at l.processors p) la level from ≡ true
may_read-from l p la Four from h = is_root-at (processor_at l.processors p).control from h
may_read-from l p la Three from h = in_structures _ _ h
may_read-from l p la Two from h = in_structures _ _ h
may_read-from l p la One from h = in_structures _ _ h
