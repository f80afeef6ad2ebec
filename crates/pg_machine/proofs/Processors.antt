-- What the list of processors has at a number, and the state of the definition after a change of
-- one.
use Rattle.std.proofs.Common.{◌≡◌, ℕ, zero, suc, ◌<◌, ◌≤◌, List, [], ◌∷◌, length, get_or, set, Some, None, refl, ap, ◌∙◌, sym, arith, ◌==◌, ⊎_elim}
use Rattle.std.specs.List.{slice_get}
use Rattle.std.proofs.lemmas.Option.{slice_get_read, slice_get_past}
use Rattle.std.proofs.lemmas.Bool.{cases_eq, eq-eqb, ne_eqb, cond-true, cond-false}
use std.Path.{fun_ext}
use Rattle.pg_event.specs.declared.control.Control.{Control}
use Rattle.pg_machine.specs.declared.step.Structure.{Structure}
use Rattle.pg_machine.specs.declared.step.Translation.{Translation}
use Rattle.pg_machine.specs.Listed.{ProcessorState, processor_or_none, processor_at}
use Rattle.pg_machine.specs.Machine.{State, changed_at}

pub processor_at_read : (processors : List ProcessorState) (p : ℕ) (x : ProcessorState) → p < length processors → x ≡ get_or processors p x → x ≡ processor_at processors p
processor_at_read processors p x there read = sym (ap processor_or_none (slice_get_read processors (length processors) p x refl there read))

pub processor_at_past : (processors : List ProcessorState) (p : ℕ) → length processors ≤ p → processor_at processors p ≡ processor_or_none None
processor_at_past processors p past = ap processor_or_none (slice_get_past processors p past)

slice_get-set_same : (xs : List ProcessorState) (p : ℕ) (x : ProcessorState) → p < length xs → slice_get (set xs p x) p ≡ Some x
slice_get-set_same [] p x there = absurd (omega arith)
slice_get-set_same (y ∷ ys) zero x there = refl
slice_get-set_same (y ∷ ys) (suc p) x there = slice_get-set_same ys p x (omega arith)

slice_get-set_other : (xs : List ProcessorState) (p q : ℕ) (x : ProcessorState) → (q ≡ p → ⊥) → slice_get (set xs p x) q ≡ slice_get xs q
slice_get-set_other [] p q x other = refl
slice_get-set_other (y ∷ ys) zero zero x other = absurd (other refl)
slice_get-set_other (y ∷ ys) zero (suc q) x other = refl
slice_get-set_other (y ∷ ys) (suc p) zero x other = refl
slice_get-set_other (y ∷ ys) (suc p) (suc q) x other = slice_get-set_other ys p q x (λ e. other (ap suc e))

pub processor_at-set_same : (processors : List ProcessorState) (p : ℕ) (x : ProcessorState) → p < length processors → processor_at (set processors p x) p ≡ x
processor_at-set_same processors p x there = ap processor_or_none (slice_get-set_same processors p x there)

pub processor_at-set_other : (processors : List ProcessorState) (p q : ℕ) (x : ProcessorState) → (q ≡ p → ⊥) → processor_at (set processors p x) q ≡ processor_at processors q
processor_at-set_other processors p q x other = ap processor_or_none (slice_get-set_other processors p q x other)

-- states with equal functions are equal
pub same_states : (s t : State) → ((a : ℕ) → s.memory a ≡ t.memory a) → ((p : ℕ) → s.control p ≡ t.control p) → ((p : ℕ) → s.structures p ≡ t.structures p) → ((p : ℕ) → s.translations p ≡ t.translations p) → s ≡ t
same_states s t memory control structures translations =
    ap (λ (f : ℕ → ℕ). let r : State = record { memory = f; control = s.control; structures = s.structures; translations = s.translations } in r) (fun_ext memory)
    ∙ ap (λ (f : ℕ → Control). let r : State = record { memory = t.memory; control = f; structures = s.structures; translations = s.translations } in r) (fun_ext control)
    ∙ ap (λ (f : ℕ → List Structure). let r : State = record { memory = t.memory; control = t.control; structures = f; translations = s.translations } in r) (fun_ext structures)
    ∙ ap (λ (f : ℕ → List Translation). let r : State = record { memory = t.memory; control = t.control; structures = t.structures; translations = f } in r) (fun_ext translations)

-- a part of the processors, by what the part of one becomes and what that of the others is
pub part_set : {X : Type 0} (part : ProcessorState → X) (processors : List ProcessorState) (p : ℕ) (x : ProcessorState) (new : ℕ → X) → p < length processors → part x ≡ new p → ((q : ℕ) → (q ≡ p → ⊥) → part (processor_at processors q) ≡ new q) → (q : ℕ) → part (processor_at (set processors p x) q) ≡ new q
part_set part processors p x new there here others q =
    ⊎_elim
    (λ same. let at : part (processor_at (set processors p x) p) ≡ new p = ap part (processor_at-set_same processors p x there) ∙ here in rw same at)
    (λ other. ap part (processor_at-set_other processors p q x other) ∙ others q other)
    (cases_eq q p)

pub part_kept : {X : Type 0} (part : ProcessorState → X) (processors : List ProcessorState) (p : ℕ) (x : ProcessorState) → p < length processors → part x ≡ part (processor_at processors p) → (q : ℕ) → part (processor_at (set processors p x) q) ≡ part (processor_at processors q)
part_kept part processors p x there here q = part_set part processors p x (λ r. part (processor_at processors r)) there here (λ r other. refl) q

pub part_changed : {X : Type 0} (part : ProcessorState → X) (processors : List ProcessorState) (p : ℕ) (x : ProcessorState) (change : X → X) → p < length processors → part x ≡ change (part (processor_at processors p)) → (q : ℕ) → part (processor_at (set processors p x) q) ≡ changed_at p change (λ r. part (processor_at processors r)) q
part_changed part processors p x change there here q =
    part_set part processors p x (changed_at p change (λ r. part (processor_at processors r))) there
    (here ∙ sym (cond-true (p == p) (change (part (processor_at processors p))) (part (processor_at processors p)) (eq-eqb p p refl)))
    (λ r other. sym (cond-false (r == p) (change (part (processor_at processors r))) (part (processor_at processors r)) (ne_eqb r p other)))
    q
