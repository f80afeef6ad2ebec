-- The tests that tell entries apart are equality.
use Rattle.std.proofs.Common.{◌≡◌, ℕ, Bool, true, false, not, ◌==◌, refl}
use Rattle.std.proofs.lemmas.Bool.{and_parts, and_from, eqb-true, eq-eqb}
use Rattle.pg_entry.specs.declared.Level.{Level}
use Rattle.pg_entry.specs.declared.Level.TheVariants.{Four, Three, Two, One}
use Rattle.pg_entry.specs.declared.Rights.{Rights}
use Rattle.pg_event.specs.Invalidation.{xor, level_shift}
use Rattle.pg_machine.specs.declared.step.Structure.{Structure}
use Rattle.pg_machine.specs.declared.step.Translation.{Translation}
use Rattle.pg_machine.specs.Machine.{same_rights, same_structure, same_translation}

pub same_bool : (a b : Bool) → not (xor a b) ≡ true → a ≡ b
same_bool true true h = refl
same_bool true false h = cc
same_bool false true h = cc
same_bool false false h = refl

bool_same : (a : Bool) → not (xor a a) ≡ true
bool_same true = refl
bool_same false = refl

same_level : (a b : Level) → (level_shift a == level_shift b) ≡ true → a ≡ b
same_level Four Four h = refl
same_level Four Three h = cc
same_level Four Two h = cc
same_level Four One h = cc
same_level Three Four h = cc
same_level Three Three h = refl
same_level Three Two h = cc
same_level Three One h = cc
same_level Two Four h = cc
same_level Two Three h = cc
same_level Two Two h = refl
same_level Two One h = cc
same_level One Four h = cc
same_level One Three h = cc
same_level One Two h = cc
same_level One One h = refl

-- rights
pub rights_itself : (a : Rights) → same_rights a a ≡ true
rights_itself a =
    and_from _ _ (and_from _ _ (bool_same a.write) (bool_same a.user)) (bool_same a.xd)

-- entries by their parts
structure_of : ℕ → Level → ℕ → ℕ → Bool → Bool → Bool → Structure
structure_of pcid level prefix table write user xd =
    record { key = record { pcid = pcid; level = level; prefix = prefix }; table = table; rights = record { write = write; user = user; xd = xd } }

structure_of-parts : (a : Structure) → structure_of a.key.pcid a.key.level a.key.prefix a.table a.rights.write a.rights.user a.rights.xd ≡ a
unfolding structure_of
structure_of-parts a = refl

translation_of : ℕ → ℕ → ℕ → Bool → ℕ → Bool → Bool → Bool → Bool → Translation
translation_of pcid shift number global frame write user xd dirty =
    record { key = record { pcid = pcid; shift = shift; number = number; global = global }; frame = frame; rights = record { write = write; user = user; xd = xd }; dirty = dirty }

translation_of-parts : (a : Translation) → translation_of a.key.pcid a.key.shift a.key.number a.key.global a.frame a.rights.write a.rights.user a.rights.xd a.dirty ≡ a
unfolding translation_of
translation_of-parts a = refl

pub structure_same : (a b : Structure) → same_structure a b ≡ true → a ≡ b
structure_same a b h =
    let r = and_parts _ _ h in
    let t = and_parts _ _ r.0 in
    let n = and_parts _ _ t.0 in
    let l = and_parts _ _ n.0 in
    let r1 = and_parts _ _ r.1 in
    let r2 = and_parts _ _ r1.0 in
    let pcid : a.key.pcid ≡ b.key.pcid = eqb-true _ _ l.0 in
    let level : a.key.level ≡ b.key.level = same_level a.key.level b.key.level l.1 in
    let prefix : a.key.prefix ≡ b.key.prefix = eqb-true _ _ n.1 in
    let table : a.table ≡ b.table = eqb-true _ _ t.1 in
    let write : a.rights.write ≡ b.rights.write = same_bool _ _ r2.0 in
    let user : a.rights.user ≡ b.rights.user = same_bool _ _ r2.1 in
    let xd : a.rights.xd ≡ b.rights.xd = same_bool _ _ r1.1 in
    cc (structure_of-parts a, structure_of-parts b)

pub same_structure-itself : (a : Structure) → same_structure a a ≡ true
same_structure-itself a =
    and_from _ _ (and_from _ _ (and_from _ _ (and_from _ _ (eq-eqb a.key.pcid a.key.pcid refl) (eq-eqb (level_shift a.key.level) (level_shift a.key.level) refl)) (eq-eqb a.key.prefix a.key.prefix refl)) (eq-eqb a.table a.table refl))
    (rights_itself a.rights)

pub translation_same : (a b : Translation) → same_translation a b ≡ true → a ≡ b
translation_same a b h =
    let d = and_parts _ _ h in
    let r = and_parts _ _ d.0 in
    let f = and_parts _ _ r.0 in
    let g = and_parts _ _ f.0 in
    let n = and_parts _ _ g.0 in
    let s = and_parts _ _ n.0 in
    let r1 = and_parts _ _ r.1 in
    let r2 = and_parts _ _ r1.0 in
    let pcid : a.key.pcid ≡ b.key.pcid = eqb-true _ _ s.0 in
    let shift : a.key.shift ≡ b.key.shift = eqb-true _ _ s.1 in
    let number : a.key.number ≡ b.key.number = eqb-true _ _ n.1 in
    let global : a.key.global ≡ b.key.global = same_bool _ _ g.1 in
    let frame : a.frame ≡ b.frame = eqb-true _ _ f.1 in
    let write : a.rights.write ≡ b.rights.write = same_bool _ _ r2.0 in
    let user : a.rights.user ≡ b.rights.user = same_bool _ _ r2.1 in
    let xd : a.rights.xd ≡ b.rights.xd = same_bool _ _ r1.1 in
    let dirty : a.dirty ≡ b.dirty = same_bool _ _ d.1 in
    cc (translation_of-parts a, translation_of-parts b)

pub same_translation-itself : (a : Translation) → same_translation a a ≡ true
same_translation-itself a =
    and_from _ _ (and_from _ _ (and_from _ _ (and_from _ _ (and_from _ _ (and_from _ _ (eq-eqb a.key.pcid a.key.pcid refl) (eq-eqb a.key.shift a.key.shift refl)) (eq-eqb a.key.number a.key.number refl)) (bool_same a.key.global)) (eq-eqb a.frame a.frame refl))
    (rights_itself a.rights))
    (bool_same a.dirty)
