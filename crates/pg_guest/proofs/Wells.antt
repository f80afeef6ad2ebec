-- What well-formed instructions say of their processors, and of each processor's own.
use Rattle.std.proofs.Common.{◌≡◌, ◌<◌, ℕ, Bool, true, false, List, [], ◌∷◌, Option, Some, None, length, refl, subst, eqb, ltb}
use Rattle.std.specs.Prelude.{not, if◌then◌else◌}
use Rattle.std.specs.List.{AllByRecursion}
use Rattle.std.proofs.lemmas.Bool.{eqb-true, ltb-true}
use Rattle.pg_event.specs.declared.event.Malformed.{Malformed}
use Rattle.pg_event.specs.declared.event.Malformed.TheVariants.{Processor}
use Rattle.pg_event.specs.Heads.{Head}
use Rattle.pg_event.specs.Form.{processor_of, broken_rule}
use Rattle.pg_guest.specs.declared.instruction.Instruction.{Instruction}
use Rattle.pg_guest.specs.declared.instruction.Instruction.TheVariants.{Write, Access, MovCr3, Invlpg, Invpcid, MovCr4Pge}
use Rattle.pg_guest.specs.declared.instruction.Task.{Task}
use Rattle.pg_guest.specs.Tasks.{IsWellFormed, event_of, shape, instructions_of, order_of}

pub processor_is : (p : ℕ) (i : Instruction) → processor_of (event_of p i) ≡ p
processor_is p (Write addr value) = refl
processor_is p (Access flags la) = refl
processor_is p (MovCr3 operand) = refl
processor_is p (Invlpg la) = refl
processor_is p (Invpcid kind pcid la) = refl
processor_is p (MovCr4Pge on) = refl

pub shape_is : (p : ℕ) (i : Instruction) → shape (event_of p i) ≡ Some i
shape_is p (Write addr value) = refl
shape_is p (Access flags la) = refl
shape_is p (MovCr3 operand) = refl
shape_is p (Invlpg la) = refl
shape_is p (Invpcid kind pcid la) = refl
shape_is p (MovCr4Pge on) = refl

-- the first rule is kept where no rule is broken
first_kept : (b : Bool) (others : Option Malformed) → (if not b then Some Processor else others) ≡ None → b ≡ true
first_kept true others none = refl
first_kept false others none = cc

-- the processor is one of the header's
pub within : (head : Head) (p : ℕ) (i : Instruction) → IsWellFormed head p i → p < length head.processors
within head p i well =
    let e = event_of p i in
    let none : broken_rule head e ≡ None = well e (processor_is p i) (shape_is p i) in
    let known = first_kept (ltb (processor_of e) (length head.processors)) _ none in
    subst (λ q. q < length head.processors) (processor_is p i) (ltb-true (processor_of e) (length head.processors) known)

abbrev AreWell : Head → List Task → Type 0
AreWell head tasks = AllByRecursion (λ task. IsWellFormed head task.p task.instruction) tasks

pub own_well : (head : Head) (p : ℕ) (tasks : List Task) → AreWell head tasks → AllByRecursion (IsWellFormed head p) (instructions_of p tasks)
own_well head p [] well = tt
own_well head p (task ∷ tasks) well = go (eqb task.p p) refl (own_well head p tasks well.1)
  where
    go : (b : Bool) → eqb task.p p ≡ b → AllByRecursion (IsWellFormed head p) (instructions_of p tasks) → AllByRecursion (IsWellFormed head p) (instructions_of p (task ∷ tasks))
    go true is later = rw is (rw (eqb-true task.p p is) at well.0, later)
    go false is later = rw is later

pub order_within : (head : Head) (tasks : List Task) → AreWell head tasks → AllByRecursion (λ p. p < length head.processors) (order_of tasks)
order_within head [] well = tt
order_within head (task ∷ tasks) well = (within head task.p task.instruction well.0, order_within head tasks well.1)
