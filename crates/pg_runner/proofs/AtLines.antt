-- The line with a number, and its processor.
use Rattle.std.proofs.Common.{◌≡◌, ℕ, zero, suc, ◌<◌, List, [], ◌∷◌, length, map, get_or, refl, sym, ◌∙◌, subst, arith, Some}
use Rattle.std.specs.Prelude.{slice_get}
use Rattle.std.specs.List.{AllByRecursion}
use Rattle.std.proofs.lemmas.List.{length-map}
use Rattle.pg_guest.specs.declared.instruction.Task.{Task}
use Rattle.pg_guest.specs.Reading.{Scripted}
use Rattle.pg_guest.specs.Tasks.{order_of}
use Rattle.pg_guest.specs.Held.{Held, seen}
use Rattle.pg_world.specs.Recording.{Recording}
use Rattle.pg_runner.specs.Lines.{AreCarriedOut}
use Rattle.pg_runner.proofs.Started.{count_of}

-- the line with this number is one of p
pub record IsLineOf (p : ℕ) (tasks : List Task) (k : ℕ) : Type 0 where
  pub task : Task
  pub is : slice_get tasks k ≡ Some task
  pub own : task.p ≡ p

pub line_of : (tasks : List Task) (k : ℕ) → k < length tasks → IsLineOf (get_or (order_of tasks) k 0) tasks k
line_of [] k within = absurd (omega (arith, within))
line_of (t ∷ ts) zero within = record { task = t; is = refl; own = refl }
line_of (t ∷ ts) (suc k) within =
    let less : k < length ts = omega (arith, within) in
    let later = line_of ts k less in record { task = later.task; is = later.is; own = later.own }

pub line_in : (order : List ℕ) (tasks : List Task) (k : ℕ) → order ≡ order_of tasks → k < length tasks → IsLineOf (get_or order k 0) tasks k
line_in order tasks k is within = subst (λ ps. IsLineOf (get_or ps k 0) tasks k) (sym is) (line_of tasks k within)

read_all : (P : ℕ → Type 0) (xs : List ℕ) (k : ℕ) → AllByRecursion P xs → k < length xs → P (get_or xs k 0)
read_all P [] k all within = absurd (omega (arith, within))
read_all P (x ∷ xs) zero all within = all.0
read_all P (x ∷ xs) (suc k) all within = let less : k < length xs = omega (arith, within) in read_all P xs k all.1 less

-- and it is one of the processors
pub within : (script : Scripted) (order : List ℕ) (k : ℕ) (r : Recording) (hs : List Held) → AllByRecursion (λ p. p < length script.head.processors) order → k < length order → AreCarriedOut script k r (map seen hs) →
    get_or order k 0 < length hs
within script order k r hs all less out =
    let low : get_or order k 0 < length script.head.processors = read_all (λ p. p < length script.head.processors) order k all less in
    let count : length hs ≡ length script.head.processors = sym (length-map hs seen) ∙ count_of script r (map seen hs) out.runs in
    omega (arith, low, count)
