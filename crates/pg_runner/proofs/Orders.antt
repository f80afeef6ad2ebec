-- Turns that go line by line.
use Rattle.std.proofs.Common.{◌≡◌, ℕ, zero, suc, ◌+◌, List, [], ◌∷◌, ◌++◌, drop, refl, sym, ◌∙◌, ap, arith, Some}
use Rattle.std.specs.Prelude.{slice_get}
use Rattle.pg_guest.specs.declared.instruction.Task.{Task}
use Rattle.pg_world.specs.declared.receipt.Receipt.{Receipt}
use Rattle.pg_guest.specs.declared.advance.Advance.{Advance}
use Rattle.pg_guest.specs.declared.advance.Advance.TheVariants.{Done}
use Rattle.pg_runner.specs.Lines.{lines_left, lines_after, turns_by}

-- ---- one turn more

none_left : (answers : List Advance) → lines_after [] answers ≡ []
none_left [] = refl
none_left (a ∷ answers) = none_left answers

pub left_after_more : (tasks : List Task) (answers : List Advance) (a : Advance) → lines_after tasks (answers ++ a ∷ []) ≡ lines_left a (lines_after tasks answers)
left_after_more tasks [] a = refl
left_after_more tasks (b ∷ answers) a = left_after_more (lines_left b tasks) answers a

pub turns_by_more : (tasks : List Task) (answers : List Advance) (a : Advance) (task : Task) (later : List Task) → lines_after tasks answers ≡ task ∷ later →
    turns_by tasks (answers ++ a ∷ []) ≡ turns_by tasks answers ++ task.p ∷ []
turns_by_more [] [] a task later left = absurd (cc)
turns_by_more (t ∷ tasks) [] a task later left = let same : t ≡ task = cc in ap (λ (x : Task). x.p ∷ []) same
turns_by_more [] (b ∷ answers) a task later left = let contrary : [] ≡ task ∷ later = sym (none_left answers) ∙ left in absurd (cc)
turns_by_more (t ∷ tasks) (b ∷ answers) a task later left = ap (λ ps. t.p ∷ ps) (turns_by_more (lines_left b (t ∷ tasks)) answers a task later left)

-- ---- the lines from one on

pub lines_from : (tasks : List Task) (k : ℕ) (task : Task) → slice_get tasks k ≡ Some task → drop k tasks ≡ task ∷ drop (k + 1) tasks
lines_from [] k task at = absurd (cc)
lines_from (t ∷ ts) zero task at = let same : t ≡ task = cc in ap (λ x. x ∷ ts) same
lines_from (t ∷ ts) (suc k) task at =
    let more : suc k + 1 ≡ suc (k + 1) = omega arith in
    lines_from ts k task at ∙ ap (λ n. task ∷ drop n (t ∷ ts)) (sym more)

-- ---- a turn for the line that is next

-- the turns so far go by these lines, of which so many are carried out
abbrev pub GoBy : List Task → ℕ → List ℕ → List Advance → Type 0
GoBy tasks k turns answers = (turns ≡ turns_by tasks answers) × (lines_after tasks answers ≡ drop k tasks)

-- a turn that does not carry the line out leaves it the next
abbrev pub KeepsLine : Advance → Type 0
KeepsLine a = (task : Task) (later : List Task) → lines_left a (task ∷ later) ≡ task ∷ later

pub by_one_more : (tasks : List Task) (k : ℕ) (turns : List ℕ) (answers : List Advance) (task : Task) (a : Advance) → slice_get tasks k ≡ Some task → GoBy tasks k turns answers → KeepsLine a →
    GoBy tasks k (turns ++ task.p ∷ []) (answers ++ a ∷ [])
by_one_more tasks k turns answers task a at so keeps =
    let from : lines_after tasks answers ≡ task ∷ drop (k + 1) tasks = so.1 ∙ lines_from tasks k task at in (
      ap (λ ps. ps ++ task.p ∷ []) so.0 ∙ sym (turns_by_more tasks answers a task (drop (k + 1) tasks) from),
      left_after_more tasks answers a ∙ ap (lines_left a) from ∙ keeps task (drop (k + 1) tasks) ∙ sym (lines_from tasks k task at),
    )

-- and one that does leaves the lines after it
pub by_one_done : (tasks : List Task) (k : ℕ) (turns : List ℕ) (answers : List Advance) (task : Task) (receipt : Receipt) → slice_get tasks k ≡ Some task → GoBy tasks k turns answers →
    GoBy tasks (k + 1) (turns ++ task.p ∷ []) (answers ++ Done receipt ∷ [])
by_one_done tasks k turns answers task receipt at so =
    let from : lines_after tasks answers ≡ task ∷ drop (k + 1) tasks = so.1 ∙ lines_from tasks k task at in (
      ap (λ ps. ps ++ task.p ∷ []) so.0 ∙ sym (turns_by_more tasks answers (Done receipt) task (drop (k + 1) tasks) from),
      left_after_more tasks answers (Done receipt) ∙ ap (lines_left (Done receipt)) from,
    )
