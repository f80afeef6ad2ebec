-- The tasks are those that the processors and their lists say, and stay so with one more.
use Rattle.std.proofs.Common.{◌≡◌, ◌∙◌, ◌++◌, ℕ, Bool, true, false, List, [], ◌∷◌, drop, refl, sym, ap, eqb}
use Rattle.std.proofs.lemmas.List.{map-append}
use Rattle.std.proofs.lemmas.Bool.{eq-eqb}
use Rattle.pg_guest.specs.declared.instruction.Instruction.{Instruction}
use Rattle.pg_guest.specs.declared.instruction.Task.{Task}
use Rattle.pg_guest.specs.Tasks.{instructions_of, order_of}
use Rattle.pg_guest.specs.Dealt.{dealt, with_first, without_first, own_of, AreDealt}

pub dealt_is : (order : List ℕ) (lists : ℕ → List Instruction) (tasks : List Task) → AreDealt order lists tasks → dealt order lists ≡ tasks
dealt_is order lists [] d = rw d.processors refl
dealt_is order lists (task ∷ tasks) d =
    let own : lists task.p ≡ task.instruction ∷ instructions_of task.p tasks = d.instructions task.p ∙ rw (eq-eqb task.p task.p refl) refl in
    let others = dealt_is (order_of tasks) (without_first task.p lists) tasks (record { processors = refl; instructions = rest }) in
    rw d.processors (ap (λ is. with_first task.p is (dealt (order_of tasks) (without_first task.p lists))) own ∙ ap (λ ts. task ∷ ts) others)
  where
    rest : (q : ℕ) → without_first task.p lists q ≡ instructions_of q tasks
    rest q = go (eqb task.p q) refl
      where
        go : (b : Bool) → eqb task.p q ≡ b → without_first task.p lists q ≡ instructions_of q tasks
        go true is = rw is (ap (drop 1) (d.instructions q) ∙ rw is refl)
        go false is = rw is (d.instructions q ∙ rw is refl)

instructions_of-append : (p : ℕ) (tasks more : List Task) → instructions_of p (tasks ++ more) ≡ instructions_of p tasks ++ instructions_of p more
instructions_of-append p [] more = refl
instructions_of-append p (task ∷ tasks) more = go (eqb task.p p) refl (instructions_of-append p tasks more)
  where
    go : (b : Bool) → eqb task.p p ≡ b → instructions_of p (tasks ++ more) ≡ instructions_of p tasks ++ instructions_of p more
        → instructions_of p (task ∷ tasks ++ more) ≡ instructions_of p (task ∷ tasks) ++ instructions_of p more
    go true is later = rw is (ap (λ is. task.instruction ∷ is) later)
    go false is later = rw is later

-- one task more
pub deals_more : (order : List ℕ) (lists new : ℕ → List Instruction) (tasks : List Task) (task : Task) → AreDealt order lists tasks
    → ((p : ℕ) → new p ≡ lists p ++ own_of task.p p task.instruction) → AreDealt (order ++ task.p ∷ []) new (tasks ++ task ∷ [])
deals_more order lists new tasks task d more = record {
  processors = ap (λ ps. ps ++ task.p ∷ []) d.processors ∙ sym (map-append (λ t. t.p) tasks (task ∷ []));
  instructions = λ p. more p ∙ ap (λ is. is ++ own_of task.p p task.instruction) (d.instructions p) ∙ sym (instructions_of-append p tasks (task ∷ []));
}

-- lists that say the same of each processor
pub deals_same : (order : List ℕ) (lists new : ℕ → List Instruction) (tasks : List Task) → AreDealt order lists tasks → ((p : ℕ) → new p ≡ lists p) → AreDealt order new tasks
deals_same order lists new tasks d same = record { processors = d.processors; instructions = λ p. same p ∙ d.instructions p }
