-- The record of a script's run is never full.
use Rattle.std.proofs.Common.{◌≡◌, ℕ, zero, suc, ◌+◌, ◌*◌, ◌-◌, ◌^◌, ◌≤◌, ◌<◌, ◌==◌, Bool, true, false, not, cond, List, [], ◌∷◌, length, sum_by, refl, ◌∙◌, ap, arith, inl, inr, Some, eq-eqb}
use Rattle.std.specs.Prelude.{slice_get}
use Rattle.std.proofs.lemmas.Bool.{cases_eq, ne_eqb, lt-ltb}
use Rattle.std.proofs.lemmas.List.Sums.{sum_by-cons}
use Rattle.pg_guest.specs.declared.instruction.Task.{Task}
use Rattle.pg_guest.specs.Reading.{Scripted, IsScript, most_instructions}
use Rattle.pg_guest.specs.Tasks.{instructions_of}
use Rattle.pg_guest.specs.Turn.{Processor}
use Rattle.pg_guest.proofs.Few.{events_are_few}
use Rattle.pg_world.specs.Recording.{Recording, is_full}
use Rattle.pg_runner.specs.Runs.{RunsTo}

-- ---- the instructions of all processors are the lines

-- how many instructions so many processors have, from one on
abbrev instructions_from : ℕ → ℕ → List Task → ℕ
instructions_from zero k tasks = 0
instructions_from (suc n) k tasks = length (instructions_of k tasks) + instructions_from n (suc k) tasks

abbrev one : Bool → ℕ
one true = 1
one false = 0

-- how often a number is among so many, from one on
abbrev times_in : ℕ → ℕ → ℕ → ℕ
times_in zero k q = 0
times_in (suc n) k q = one (q == k) + times_in n (suc k) q

none_above : (n k q : ℕ) → q < k → times_in n k q ≡ 0
none_above zero k q low = refl
none_above (suc n) k q low =
    let here : one (q == k) ≡ 0 = ap one (ne_eqb q k (λ same. absurd (omega (arith, low, same)))) in
    let above : times_in n (suc k) q ≡ 0 = none_above n (suc k) q (omega (arith, low)) in
    omega (arith, here, above)

once : (n k q : ℕ) → times_in n k q ≤ 1
once zero k q = omega arith
once (suc n) k q =
    elim (cases_eq q k) [
      | inl same ↦
          let here : one (q == k) ≡ 1 = ap one (eq-eqb q k same) in
          let above : times_in n (suc k) q ≡ 0 = none_above n (suc k) q (omega (arith, same)) in
          omega (arith, here, above)
      | inr away ↦
          let here : one (q == k) ≡ 0 = ap one (ne_eqb q k away) in
          let above : times_in n (suc k) q ≤ 1 = once n (suc k) q in
          omega (arith, here, above)
    ]

one_more : (b : Bool) (A : Type 0) (x : A) (xs : List A) → length (cond b (x ∷ xs) xs) ≡ one b + length xs
one_more true A x xs = omega arith
one_more false A x xs = omega arith

one_line_more : (n k : ℕ) (task : Task) (tasks : List Task) → instructions_from n k (task ∷ tasks) ≡ times_in n k task.p + instructions_from n k tasks
one_line_more zero k task tasks = refl
one_line_more (suc n) k task tasks =
    let here = one_more (task.p == k) _ task.instruction (instructions_of k tasks) in
    let above = one_line_more n (suc k) task tasks in
    omega (arith, here, above)

no_lines : (n k : ℕ) → instructions_from n k [] ≡ 0
no_lines zero k = refl
no_lines (suc n) k = let above = no_lines n (suc k) in omega (arith, above)

no_more_than_lines : (n k : ℕ) (tasks : List Task) → instructions_from n k tasks ≤ length tasks
no_more_than_lines n k [] = let none = no_lines n k in omega (arith, none)
no_more_than_lines n k (task ∷ tasks) =
    let all = one_line_more n k task tasks in
    let own = once n k task.p in
    let later = no_more_than_lines n k tasks in
    omega (arith, all, own, later)

instructions_in : (k : ℕ) (tasks : List Task) (xs : List Processor) → ((p : ℕ) (x : Processor) → slice_get xs p ≡ Some x → x.instructions ≡ instructions_of (k + p) tasks) →
    sum_by (λ (x : Processor). length x.instructions) xs ≡ instructions_from (length xs) k tasks
instructions_in k tasks [] each = refl
instructions_in k tasks (x ∷ xs) each =
    let shift : (p : ℕ) → k + suc p ≡ suc k + p = λ p. omega arith in
    let none : k + 0 ≡ k = omega arith in
    let here : length x.instructions ≡ length (instructions_of k tasks) = ap length (each 0 x refl) ∙ ap (λ n. length (instructions_of n tasks)) none in
    let later = instructions_in (suc k) tasks xs (λ p y at. each (suc p) y at ∙ ap (λ n. instructions_of n tasks) (shift p)) in
    sum_by-cons (λ (z : Processor). length z.instructions) x xs
    ∙ ap (λ n. n + sum_by (λ (z : Processor). length z.instructions) xs) here
    ∙ ap (λ n. length (instructions_of k tasks) + n) later

-- ---- a run

few_events : (n s t : ℕ) → n ≤ 3 * s → s ≤ t → t ≤ most_instructions → n < 2 ^ 32 - 1
few_events n s t all within most = omega (arith, all, within, most)

-- three events at most for each of so many lines
pub never_full : (script : Scripted) (r : Recording) (xs : List Processor) → IsScript script → RunsTo script r xs → is_full r ≡ false
never_full script r xs is to =
    let all = events_are_few script.head to.start to.turns to.answers r xs to.run in
    let each = instructions_in 0 script.tasks to.start (λ p x at. ap (λ (y : Processor). y.instructions) (to.started.each p x at) ∙ ap (λ n. instructions_of n script.tasks) (from_none p)) in
    let lines = no_more_than_lines (length to.start) 0 script.tasks in
    let within : sum_by (λ (x : Processor). length x.instructions) to.start ≤ length script.tasks = omega (arith, each, lines) in
    ap not (lt-ltb (length r.events) (2 ^ 32 - 1) (few_events (length r.events) (sum_by (λ (x : Processor). length x.instructions) to.start) (length script.tasks) all within is.few))
  where
    from_none : (p : ℕ) → p ≡ 0 + p
    from_none p = omega arith
