-- Keys that are the same by the derived `==` are equal.
use Rattle.std.proofs.Common.{◌≡◌, ℕ, true, ◌&&◌, nat_eq, ap, ◌∙◌}
use Rattle.std.proofs.lemmas.Bool.{eqb-true, and_parts, false≢true}
use Rattle.pg_inval.specs.declared.key.DropKey.{DropKey}
use Rattle.pg_inval.specs.declared.key.DropKey.TheVariants.{NotGlobal, Globals}
use Rattle.pg_inval.specs.declared.key.DropKey.TheVariants.{StructuresOf, Structure}
use Rattle.pg_inval.specs.declared.key.DropKey.TheVariants.{LocalsOf, Local, Global}
use Rattle.pg_inval.specs.Keys.{is_same_key}

one : (make : ℕ → DropKey) (a b : ℕ) → nat_eq a b ≡ true → make a ≡ make b
one make a b h = ap make (eqb-true a b h)

two : (make : ℕ → ℕ → DropKey) (a b c d : ℕ) → (nat_eq a b && nat_eq c d) ≡ true
    → make a c ≡ make b d
two make a b c d h =
    let parts = and_parts (nat_eq a b) (nat_eq c d) h in
    ap (λ x. make x c) (eqb-true a b parts.0) ∙ ap (make b) (eqb-true c d parts.1)

three : (make : ℕ → ℕ → ℕ → DropKey) (a b c d e f : ℕ)
    → (nat_eq a b && (nat_eq c d && nat_eq e f)) ≡ true → make a c e ≡ make b d f
three make a b c d e f h =
    let parts = and_parts (nat_eq a b) (nat_eq c d && nat_eq e f) h in
    ap (λ x. make x c e) (eqb-true a b parts.0) ∙ two (make b) c d e f parts.1

four : (make : ℕ → ℕ → ℕ → ℕ → DropKey) (a b c d e f g k : ℕ)
    → (nat_eq a b && (nat_eq c d && (nat_eq e f && nat_eq g k))) ≡ true
    → make a c e g ≡ make b d f k
four make a b c d e f g k h =
    let parts = and_parts (nat_eq a b) (nat_eq c d && (nat_eq e f && nat_eq g k)) h in
    ap (λ x. make x c e g) (eqb-true a b parts.0) ∙ three (make b) c d e f g k parts.1

pub same_key : (a b : DropKey) → is_same_key a b ≡ true → a ≡ b
same_key (NotGlobal p) (NotGlobal p') h = one NotGlobal p p' h
same_key (NotGlobal p) (Globals p') h = absurd (false≢true h)
same_key (NotGlobal p) (StructuresOf p' c') h = absurd (false≢true h)
same_key (NotGlobal p) (Structure s' p' c' n') h = absurd (false≢true h)
same_key (NotGlobal p) (LocalsOf p' c') h = absurd (false≢true h)
same_key (NotGlobal p) (Local s' p' c' n') h = absurd (false≢true h)
same_key (NotGlobal p) (Global s' p' n') h = absurd (false≢true h)
same_key (Globals p) (NotGlobal p') h = absurd (false≢true h)
same_key (Globals p) (Globals p') h = one Globals p p' h
same_key (Globals p) (StructuresOf p' c') h = absurd (false≢true h)
same_key (Globals p) (Structure s' p' c' n') h = absurd (false≢true h)
same_key (Globals p) (LocalsOf p' c') h = absurd (false≢true h)
same_key (Globals p) (Local s' p' c' n') h = absurd (false≢true h)
same_key (Globals p) (Global s' p' n') h = absurd (false≢true h)
same_key (StructuresOf p c) (NotGlobal p') h = absurd (false≢true h)
same_key (StructuresOf p c) (Globals p') h = absurd (false≢true h)
same_key (StructuresOf p c) (StructuresOf p' c') h = two StructuresOf p p' c c' h
same_key (StructuresOf p c) (Structure s' p' c' n') h = absurd (false≢true h)
same_key (StructuresOf p c) (LocalsOf p' c') h = absurd (false≢true h)
same_key (StructuresOf p c) (Local s' p' c' n') h = absurd (false≢true h)
same_key (StructuresOf p c) (Global s' p' n') h = absurd (false≢true h)
same_key (Structure s p c n) (NotGlobal p') h = absurd (false≢true h)
same_key (Structure s p c n) (Globals p') h = absurd (false≢true h)
same_key (Structure s p c n) (StructuresOf p' c') h = absurd (false≢true h)
same_key (Structure s p c n) (Structure s' p' c' n') h = four Structure s s' p p' c c' n n' h
same_key (Structure s p c n) (LocalsOf p' c') h = absurd (false≢true h)
same_key (Structure s p c n) (Local s' p' c' n') h = absurd (false≢true h)
same_key (Structure s p c n) (Global s' p' n') h = absurd (false≢true h)
same_key (LocalsOf p c) (NotGlobal p') h = absurd (false≢true h)
same_key (LocalsOf p c) (Globals p') h = absurd (false≢true h)
same_key (LocalsOf p c) (StructuresOf p' c') h = absurd (false≢true h)
same_key (LocalsOf p c) (Structure s' p' c' n') h = absurd (false≢true h)
same_key (LocalsOf p c) (LocalsOf p' c') h = two LocalsOf p p' c c' h
same_key (LocalsOf p c) (Local s' p' c' n') h = absurd (false≢true h)
same_key (LocalsOf p c) (Global s' p' n') h = absurd (false≢true h)
same_key (Local s p c n) (NotGlobal p') h = absurd (false≢true h)
same_key (Local s p c n) (Globals p') h = absurd (false≢true h)
same_key (Local s p c n) (StructuresOf p' c') h = absurd (false≢true h)
same_key (Local s p c n) (Structure s' p' c' n') h = absurd (false≢true h)
same_key (Local s p c n) (LocalsOf p' c') h = absurd (false≢true h)
same_key (Local s p c n) (Local s' p' c' n') h = four Local s s' p p' c c' n n' h
same_key (Local s p c n) (Global s' p' n') h = absurd (false≢true h)
same_key (Global s p n) (NotGlobal p') h = absurd (false≢true h)
same_key (Global s p n) (Globals p') h = absurd (false≢true h)
same_key (Global s p n) (StructuresOf p' c') h = absurd (false≢true h)
same_key (Global s p n) (Structure s' p' c' n') h = absurd (false≢true h)
same_key (Global s p n) (LocalsOf p' c') h = absurd (false≢true h)
same_key (Global s p n) (Local s' p' c' n') h = absurd (false≢true h)
same_key (Global s p n) (Global s' p' n') h = three Global s s' p p' n n' h
