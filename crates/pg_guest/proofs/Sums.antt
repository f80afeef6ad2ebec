-- The processors have all instructions of a script between them.
use Rattle.std.proofs.Common.{◌≡◌, ℕ, zero, suc, ◌+◌, ◌<◌, ◌≤◌, Bool, List, [], ◌∷◌, length, cond, refl, ap, ◌∙◌, arith, inl, inr}
use Rattle.std.specs.List.{AllByRecursion}
use Rattle.std.proofs.lemmas.Bool.{cases_eq, eq-eqb, ne_eqb}
use Rattle.pg_event.specs.Heads.{Head}
use Rattle.pg_guest.specs.declared.instruction.Instruction.{Instruction}
use Rattle.pg_guest.specs.declared.instruction.Task.{Task}
use Rattle.pg_guest.specs.Tasks.{IsWellFormed, instructions_of}
use Rattle.pg_guest.specs.ScriptLaws.{count_below, InstructionsAddUp}
use Rattle.pg_guest.proofs.Wells.{within}

abbrev own_length : Bool → List Instruction → Instruction → ℕ
own_length b rest i = length (cond b (i ∷ rest) rest)

-- an instruction of a later processor adds nothing
count_past : (n : ℕ) (task : Task) (tasks : List Task) → n ≤ task.p → count_below n (task ∷ tasks) ≡ count_below n tasks
count_past zero task tasks past = refl
count_past (suc n) task tasks past =
    let before = count_past n task tasks (omega arith) in
    let away = ne_eqb task.p n (λ same. omega (arith, past, same)) in
    let none : length (instructions_of n (task ∷ tasks)) ≡ length (instructions_of n tasks) = ap (λ b. own_length b (instructions_of n tasks) task.instruction) away in
    λ i. before i + none i

-- one of an earlier processor adds one
count_more : (n : ℕ) (task : Task) (tasks : List Task) → task.p < n → count_below n (task ∷ tasks) ≡ suc (count_below n tasks)
count_more zero task tasks few = absurd (omega arith)
count_more (suc n) task tasks few =
    elim (cases_eq task.p n) [
      | inl same ↦
          let before = count_past n task tasks (omega (arith, same)) in
          let own : length (instructions_of n (task ∷ tasks)) ≡ suc (length (instructions_of n tasks)) = ap (λ b. own_length b (instructions_of n tasks) task.instruction) (eq-eqb task.p n same) in
          (λ i. before i + own i) ∙ one (count_below n tasks) (length (instructions_of n tasks))
      | inr away ↦
          let before = count_more n task tasks (omega (arith, few, away)) in
          let none : length (instructions_of n (task ∷ tasks)) ≡ length (instructions_of n tasks) = ap (λ b. own_length b (instructions_of n tasks) task.instruction) (ne_eqb task.p n away) in
          (λ i. before i + none i) ∙ two (count_below n tasks) (length (instructions_of n tasks))
    ]
  where
    one : (a b : ℕ) → a + suc b ≡ suc (a + b)
    one a b = omega arith

    two : (a b : ℕ) → suc a + b ≡ suc (a + b)
    two a b = omega arith

count_none : (n : ℕ) → count_below n [] ≡ 0
count_none zero = refl
count_none (suc n) = ap (λ k. k + 0) (count_none n)

count_all : (head : Head) (tasks : List Task) → AllByRecursion (λ task. IsWellFormed head task.p task.instruction) tasks → count_below (length head.processors) tasks ≡ length tasks
count_all head [] well = count_none (length head.processors)
count_all head (task ∷ tasks) well = count_more (length head.processors) task tasks (within head task.p task.instruction well.0) ∙ ap suc (count_all head tasks well.1)

pub instructions_add_up : InstructionsAddUp
instructions_add_up s is = count_all s.head s.tasks is.well
