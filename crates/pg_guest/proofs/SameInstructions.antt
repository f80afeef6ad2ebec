-- The derived `==` on instructions decides whether they are the same.
use Rattle.std.proofs.Common.{◌≡◌, ℕ, ◌==◌, ◌&&◌, true, false, Decides, ap, refl}
use Rattle.std.specs.Cmp.{booleans_Decides}
use Rattle.std.proofs.lemmas.Bool.{and_parts, and_from, eqb-true, eq-eqb}
use Rattle.pg_guest.specs.declared.instruction.Instruction.{Instruction}
use Rattle.pg_guest.specs.declared.instruction.Instruction.TheVariants.{Write, Access, MovCr3, Invlpg, Invpcid, MovCr4Pge}
use Rattle.pg_guest.specs.contracts.instruction.InstructionPartialEq.TheImpl as impl

-- which constructor it is
abbrev which : Instruction → ℕ
which (Write addr value) = 0
which (Access flags la) = 1
which (MovCr3 operand) = 2
which (Invlpg la) = 3
which (Invpcid kind pcid la) = 4
which (MovCr4Pge on) = 5

differs : (a b : Instruction) → (which a == which b) ≡ false → Decides false (a ≡ b)
differs a b apart = (
  λ is. absurd cc,
  λ e. let same : (which a == which b) ≡ true = eq-eqb (which a) (which b) (ap which e) in absurd cc,
)

pub same_instruction : (a b : Instruction) → Decides (impl.eq-value.it a b) (a ≡ b)
same_instruction (Write addr value) (Write addr2 value2) = (λ is. let both = and_parts (addr == addr2) (value == value2) is in λ i. Write (eqb-true addr addr2 both.0 i) (eqb-true value value2 both.1 i), λ e. let h : addr ≡ addr2 = cc in let k : value ≡ value2 = cc in and_from (addr == addr2) (value == value2) (eq-eqb addr addr2 h) (eq-eqb value value2 k))
same_instruction (Write addr value) (Access flags2 la2) = differs (Write addr value) (Access flags2 la2) refl
same_instruction (Write addr value) (MovCr3 operand2) = differs (Write addr value) (MovCr3 operand2) refl
same_instruction (Write addr value) (Invlpg la2) = differs (Write addr value) (Invlpg la2) refl
same_instruction (Write addr value) (Invpcid kind2 pcid2 la2) = differs (Write addr value) (Invpcid kind2 pcid2 la2) refl
same_instruction (Write addr value) (MovCr4Pge on2) = differs (Write addr value) (MovCr4Pge on2) refl
same_instruction (Access flags la) (Write addr2 value2) = differs (Access flags la) (Write addr2 value2) refl
same_instruction (Access flags la) (Access flags2 la2) = (λ is. let both = and_parts (flags == flags2) (la == la2) is in λ i. Access (eqb-true flags flags2 both.0 i) (eqb-true la la2 both.1 i), λ e. let h : flags ≡ flags2 = cc in let k : la ≡ la2 = cc in and_from (flags == flags2) (la == la2) (eq-eqb flags flags2 h) (eq-eqb la la2 k))
same_instruction (Access flags la) (MovCr3 operand2) = differs (Access flags la) (MovCr3 operand2) refl
same_instruction (Access flags la) (Invlpg la2) = differs (Access flags la) (Invlpg la2) refl
same_instruction (Access flags la) (Invpcid kind2 pcid2 la2) = differs (Access flags la) (Invpcid kind2 pcid2 la2) refl
same_instruction (Access flags la) (MovCr4Pge on2) = differs (Access flags la) (MovCr4Pge on2) refl
same_instruction (MovCr3 operand) (Write addr2 value2) = differs (MovCr3 operand) (Write addr2 value2) refl
same_instruction (MovCr3 operand) (Access flags2 la2) = differs (MovCr3 operand) (Access flags2 la2) refl
same_instruction (MovCr3 operand) (MovCr3 operand2) = (λ is. λ i. MovCr3 (eqb-true operand operand2 is i), λ e. let h : operand ≡ operand2 = cc in eq-eqb operand operand2 h)
same_instruction (MovCr3 operand) (Invlpg la2) = differs (MovCr3 operand) (Invlpg la2) refl
same_instruction (MovCr3 operand) (Invpcid kind2 pcid2 la2) = differs (MovCr3 operand) (Invpcid kind2 pcid2 la2) refl
same_instruction (MovCr3 operand) (MovCr4Pge on2) = differs (MovCr3 operand) (MovCr4Pge on2) refl
same_instruction (Invlpg la) (Write addr2 value2) = differs (Invlpg la) (Write addr2 value2) refl
same_instruction (Invlpg la) (Access flags2 la2) = differs (Invlpg la) (Access flags2 la2) refl
same_instruction (Invlpg la) (MovCr3 operand2) = differs (Invlpg la) (MovCr3 operand2) refl
same_instruction (Invlpg la) (Invlpg la2) = (λ is. λ i. Invlpg (eqb-true la la2 is i), λ e. let h : la ≡ la2 = cc in eq-eqb la la2 h)
same_instruction (Invlpg la) (Invpcid kind2 pcid2 la2) = differs (Invlpg la) (Invpcid kind2 pcid2 la2) refl
same_instruction (Invlpg la) (MovCr4Pge on2) = differs (Invlpg la) (MovCr4Pge on2) refl
same_instruction (Invpcid kind pcid la) (Write addr2 value2) = differs (Invpcid kind pcid la) (Write addr2 value2) refl
same_instruction (Invpcid kind pcid la) (Access flags2 la2) = differs (Invpcid kind pcid la) (Access flags2 la2) refl
same_instruction (Invpcid kind pcid la) (MovCr3 operand2) = differs (Invpcid kind pcid la) (MovCr3 operand2) refl
same_instruction (Invpcid kind pcid la) (Invlpg la2) = differs (Invpcid kind pcid la) (Invlpg la2) refl
same_instruction (Invpcid kind pcid la) (Invpcid kind2 pcid2 la2) = (
  λ is.
      let first = and_parts (kind == kind2) (pcid == pcid2 && la == la2) is in
      let more = and_parts (pcid == pcid2) (la == la2) first.1 in
      λ i. Invpcid (eqb-true kind kind2 first.0 i) (eqb-true pcid pcid2 more.0 i) (eqb-true la la2 more.1 i),
  λ e.
      let h : kind ≡ kind2 = cc in
      let k : pcid ≡ pcid2 = cc in
      let l : la ≡ la2 = cc in
      and_from (kind == kind2) (pcid == pcid2 && la == la2) (eq-eqb kind kind2 h) (and_from (pcid == pcid2) (la == la2) (eq-eqb pcid pcid2 k) (eq-eqb la la2 l)),
)
same_instruction (Invpcid kind pcid la) (MovCr4Pge on2) = differs (Invpcid kind pcid la) (MovCr4Pge on2) refl
same_instruction (MovCr4Pge on) (Write addr2 value2) = differs (MovCr4Pge on) (Write addr2 value2) refl
same_instruction (MovCr4Pge on) (Access flags2 la2) = differs (MovCr4Pge on) (Access flags2 la2) refl
same_instruction (MovCr4Pge on) (MovCr3 operand2) = differs (MovCr4Pge on) (MovCr3 operand2) refl
same_instruction (MovCr4Pge on) (Invlpg la2) = differs (MovCr4Pge on) (Invlpg la2) refl
same_instruction (MovCr4Pge on) (Invpcid kind2 pcid2 la2) = differs (MovCr4Pge on) (Invpcid kind2 pcid2 la2) refl
same_instruction (MovCr4Pge on) (MovCr4Pge on2) = (λ is. λ i. MovCr4Pge ((booleans_Decides on on2).0 is i), λ e. let h : on ≡ on2 = cc in (booleans_Decides on on2).1 h)
