-- Keys that name one entry, and what events make of them.
use Rattle.std.proofs.Common.{◌≡◌, ℕ, ◌==◌, ◌%◌, ◌^◌, Bool, true, false, not, cond, ◌&&◌, ◌||◌, List, refl, ap, sym, ◌∙◌, nat_eq, eq-eqb}
use Rattle.std.proofs.Math.Path.{fun_ext}
use Rattle.std.proofs.lemmas.Bool.{and_parts, and_from, eqb-true}
use Rattle.pg_entry.specs.declared.Rules.{Rules}
use Rattle.pg_entry.specs.Bits.{has_bit}
use Rattle.pg_event.specs.declared.control.Control.{Control}
use Rattle.pg_event.specs.declared.event.Event.{Event}
use Rattle.pg_event.specs.declared.event.Event.TheVariants.{Write, Access, Assist, MovCr3, Invlpg, Invpcid, MovCr4Pge}
use Rattle.pg_event.specs.declared.event.Outcome.TheVariants.{Page, Fault}
use Rattle.pg_event.specs.declared.keys.StructureKey.{StructureKey}
use Rattle.pg_event.specs.declared.keys.TranslationKey.{TranslationKey}
use Rattle.pg_event.specs.Heads.{Head}
use Rattle.pg_event.specs.Invalidation.{bits_from, level_shift, must_drop_translation}
use Rattle.pg_event.specs.Witness.{survives, translation_survives}
use Rattle.pg_shadow.specs.Caches.{same_structure, same_space, same_translation}
use Rattle.pg_shadow.proofs.Levels.{level_same}

-- the key of a translation by its parts
abbrev pub key_of : ℕ → ℕ → ℕ → Bool → TranslationKey
key_of pcid shift number global = record { pcid = pcid; shift = shift; number = number; global = global }

pub or_true : (b : Bool) → (b || true) ≡ true
or_true true = refl
or_true false = refl

pub and_false : (b : Bool) → (b && false) ≡ false
and_false true = refl
and_false false = refl

and_false3 : (a b : Bool) → (a && b && false) ≡ false
and_false3 a b = and_false (a && b)

-- of a global translation no event looks at the PCID
global_alike : (rules : Rules) (c : Control) (e : Event) (a b shift number : ℕ) → must_drop_translation rules c e (key_of a shift number true) ≡ must_drop_translation rules c e (key_of b shift number true)
global_alike rules c (Write p addr value) a b shift number = refl
global_alike rules c (Access p flags la (Page page) moments) a b shift number = refl
global_alike rules c (Access p flags la (Fault code) moments) a b shift number = refl
global_alike rules c (Assist p flags la word moments) a b shift number = refl
global_alike rules c (MovCr3 p operand) a b shift number = and_false3 (not (has_bit operand 63)) (a == operand % 2 ^ 12) ∙ sym (and_false3 (not (has_bit operand 63)) (b == operand % 2 ^ 12))
global_alike rules c (Invlpg p la) a b shift number = ap (λ t. (number == bits_from shift la) && t) (or_true (a == c.pcid) ∙ sym (or_true (b == c.pcid)))
global_alike rules c (Invpcid p kind pcid la) a b shift number =
    ap (λ t. cond (kind == 0) t (cond (kind == 1) ((a == pcid) && false) (cond (kind == 2) true false)))
    (and_false3 (a == pcid) (number == bits_from shift la) ∙ sym (and_false3 (b == pcid) (number == bits_from shift la)))
    ∙ ap (λ t. cond (kind == 0) ((b == pcid) && (number == bits_from shift la) && false) (cond (kind == 1) t (cond (kind == 2) true false)))
    (and_false (a == pcid) ∙ sym (and_false (b == pcid)))
global_alike rules c (MovCr4Pge p on) a b shift number = refl

drops_alike : (rules : Rules) (c : Control) (e : Event) (a b shift number : ℕ) (g h : Bool) → same_space (key_of a shift number g) (key_of b shift number h) ≡ true →
    must_drop_translation rules c e (key_of a shift number g) ≡ must_drop_translation rules c e (key_of b shift number h)
drops_alike rules c e a b shift number true true same = global_alike rules c e a b shift number
drops_alike rules c e a b shift number true false same = absurd (cc)
drops_alike rules c e a b shift number false true same = absurd (cc)
drops_alike rules c e a b shift number false false same = ap (λ (q : ℕ). must_drop_translation rules c e (key_of q shift number false)) (eqb-true a b same)

-- translations of one page in one space survive alike
pub survives_alike : (head : Head) (es : List Event) (p w n : ℕ) (a b shift number : ℕ) (g h : Bool) → same_space (key_of a shift number g) (key_of b shift number h) ≡ true →
    translation_survives head es p (key_of a shift number g) w n ≡ translation_survives head es p (key_of b shift number h) w n
survives_alike head es p w n a b shift number g h same =
    let one : Control → Event → Bool = λ c e. must_drop_translation head.cfg.rules c e (key_of a shift number g) in
    let other : Control → Event → Bool = λ c e. must_drop_translation head.cfg.rules c e (key_of b shift number h) in
    let alike : one ≡ other = fun_ext (λ (c : Control). fun_ext (λ (e : Event). drops_alike head.cfg.rules c e a b shift number g h same)) in
    ap (λ (test : Control → Event → Bool). survives head es p test w n) alike

-- a key that names the entry of another is that key
pub structure_is : (a b : StructureKey) → same_structure a b ≡ true → a ≡ b
structure_is a b same =
    let first = and_parts (nat_eq a.pcid b.pcid && nat_eq (level_shift a.level) (level_shift b.level)) (nat_eq a.prefix b.prefix) same in
    let second = and_parts (nat_eq a.pcid b.pcid) (nat_eq (level_shift a.level) (level_shift b.level)) first.0 in
    let pcid : a.pcid ≡ b.pcid = eqb-true _ _ second.0 in
    let level : a.level ≡ b.level = level_same _ _ (eqb-true _ _ second.1) in
    let prefix : a.prefix ≡ b.prefix = eqb-true _ _ first.1 in
    λ i. record { pcid = pcid i; level = level i; prefix = prefix i }

pub structure_self : (a : StructureKey) → same_structure a a ≡ true
structure_self a = and_from _ _ (and_from _ _ (eq-eqb a.pcid a.pcid refl) (eq-eqb (level_shift a.level) (level_shift a.level) refl)) (eq-eqb a.prefix a.prefix refl)

-- a key that names the translation of another has its size, its page and its space
pub record IsSamePage (a b : TranslationKey) : Type 0 where
  pub shift : a.shift ≡ b.shift
  pub number : a.number ≡ b.number
  pub space : same_space a b ≡ true

pub translation_is : (a b : TranslationKey) → same_translation a b ≡ true → IsSamePage a b
translation_is a b same =
    let first = and_parts (same_space a b && nat_eq a.shift b.shift) (nat_eq a.number b.number) same in
    let second = and_parts (same_space a b) (nat_eq a.shift b.shift) first.0 in
    record { shift = eqb-true _ _ second.1; number = eqb-true _ _ first.1; space = second.0 }

pub space_self : (pcid : ℕ) (g : Bool) → cond g g (not g && nat_eq pcid pcid) ≡ true
space_self pcid true = refl
space_self pcid false = eq-eqb pcid pcid refl

pub translation_self : (a : TranslationKey) → same_translation a a ≡ true
translation_self a = and_from _ _ (and_from _ _ (space_self a.pcid a.global) (eq-eqb a.shift a.shift refl)) (eq-eqb a.number a.number refl)

-- spaces that are the same as one are the same
pub space_joins : (a b c shift number : ℕ) (f g h : Bool) → same_space (key_of a shift number f) (key_of b shift number g) ≡ true →
    same_space (key_of a shift number f) (key_of c shift number h) ≡ true → same_space (key_of b shift number g) (key_of c shift number h) ≡ true
space_joins a b c shift number true true h same other = other
space_joins a b c shift number true false h same other = absurd (cc)
space_joins a b c shift number false true h same other = absurd (cc)
space_joins a b c shift number false false h same other = ap (λ (q : ℕ). not h && nat_eq q c) (sym (eqb-true a b same)) ∙ other
