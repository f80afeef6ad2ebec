-- One turn after another carries the lines out.
use Rattle.std.proofs.Common.{◌≡◌, ◌≢◌, ℕ, zero, suc, ◌+◌, ◌<◌, ◌≤◌, Bool, true, false, cond, ◌⊎◌, inl, inr, List, [], ◌∷◌, ◌++◌, length, take, refl, sym, ◌∙◌, ap, subst, arith, Some, None}
use Rattle.std.specs.Prelude.{slice_get, slice_set}
use Rattle.std.proofs.lemmas.Bool.{ne_eqb, eq-eqb}
use Rattle.std.proofs.lemmas.List.{append-nil, length-append}
use Rattle.std.proofs.lemmas.Option.{same_Some}
use Rattle.pg_event.specs.Spelling.{IsHead}
use Rattle.pg_entry.specs.declared.Level.{Level}
use Rattle.pg_world.specs.declared.receipt.Receipt.{Receipt}
use Rattle.pg_guest.specs.declared.instruction.Task.{Task}
use Rattle.pg_guest.specs.Reading.{Scripted, IsScript}
use Rattle.pg_guest.specs.Tasks.{instructions_of}
use Rattle.pg_world.specs.Recording.{Recording, is_full}
use Rattle.pg_guest.specs.declared.advance.Advance.{Advance}
use Rattle.pg_guest.specs.declared.advance.Advance.TheVariants.{Read, Assisted, Done, Ended, Stopped}
use Rattle.pg_guest.specs.declared.advance.Stop.{Stop}
use Rattle.pg_guest.specs.declared.advance.Stop.TheVariants as stops
use Rattle.pg_guest.specs.CoreRun.{IsCoreRun}
use Rattle.pg_guest.specs.Progress.{measure, is_stopped, ComesNearer}
use Rattle.pg_guest.specs.Turn.{Processor, Turned, turned, MayStop, IsTurn}
use Rattle.pg_guest.proofs.Counts.{turns_come_nearer}
use Rattle.pg_guest.proofs.CoreRuns.{each_processor}
use Rattle.pg_guest.proofs.CoreRuns.{set_here}
use Rattle.pg_runner.specs.Lines.{AreCarriedOut, lines_left, tasks_of}
use Rattle.pg_runner.proofs.Fullness.{never_full}
use Rattle.pg_runner.proofs.Lines.{AddsBy, turn_adds, line_at, instructions_pushed, Stays, Carries}
use Rattle.pg_runner.proofs.Orders.{GoBy, KeepsLine, by_one_more, by_one_done}
use Rattle.pg_runner.proofs.Started.{quiet_of, told_of, head_of, open_of, instructions_are, one_turn_more}

-- ---- the processor whose line is next

below_length : {A : Type 0} (xs : List A) (n : ℕ) (x : A) → slice_get xs n ≡ Some x → n < length xs
below_length [] n x at = absurd (cc)
below_length (y ∷ ys) zero x at = omega arith
below_length (y ∷ ys) (suc n) x at = let more : n < length ys = below_length ys n x at in omega (arith, more)

-- its next instruction is that of the line
pub next_is : (script : Scripted) (k : ℕ) (r : Recording) (xs : List Processor) (task : Task) (x : Processor) → AreCarriedOut script k r xs → slice_get script.tasks k ≡ Some task → slice_get xs task.p ≡ Some x →
    slice_get x.instructions x.place ≡ Some task.instruction
next_is script k r xs task x before at here =
    let own : x.instructions ≡ instructions_of task.p script.tasks = instructions_are script r xs before.runs task.p x here in
    let place : x.place ≡ length (instructions_of task.p (take k script.tasks)) = before.places task.p x here in
    ap (λ is. slice_get is x.place) own ∙ ap (slice_get (instructions_of task.p script.tasks)) place ∙ line_at script.tasks k task at

pub is_due : (script : Scripted) (k : ℕ) (r : Recording) (xs : List Processor) (task : Task) (x : Processor) → AreCarriedOut script k r xs → slice_get script.tasks k ≡ Some task → slice_get xs task.p ≡ Some x →
    x.place < length x.instructions
is_due script k r xs task x before at here = below_length x.instructions x.place task.instruction (next_is script k r xs task x before at here)

-- ---- what a turn leaves

take_one : (tasks : List Task) (k : ℕ) (task : Task) → slice_get tasks k ≡ Some task → take (k + 1) tasks ≡ take k tasks ++ task ∷ []
take_one [] k task at = absurd (cc)
take_one (t ∷ ts) zero task at = let same : t ≡ task = cc in ap (λ z. z ∷ []) same
take_one (t ∷ ts) (suc k) task at =
    let more : suc k + 1 ≡ suc (k + 1) = omega arith in
    ap (λ n. take n (t ∷ ts)) more ∙ ap (λ zs. t ∷ zs) (take_one ts k task at)

stays : (script : Scripted) (k : ℕ) (r : Recording) (xs : List Processor) (task : Task) (x : Processor) (t : Turned) → AreCarriedOut script k r xs → slice_get script.tasks k ≡ Some task → slice_get xs task.p ≡ Some x
    → IsTurn task.p r x t → Stays r x t → KeepsLine t.answer → AreCarriedOut script k t.world (slice_set xs task.p t.processor)
stays script k r xs task x t before at here turn left keeps =
    let by = by_one_more script.tasks k before.runs.turns before.runs.answers task t.answer at (before.order, before.left) keeps in record {
      runs = one_turn_more script r xs task.p x t before.runs here turn;
      order = by.0;
      left = by.1;
      lines = left.tasks ∙ before.lines;
      places = each_processor (λ q z. z.place ≡ length (instructions_of q (take k script.tasks))) xs task.p x t.processor here (left.place ∙ before.places task.p x here) (λ q z away at. before.places q z at);
    }

pushed_own : (tasks : List Task) (task : Task) → length (instructions_of task.p (tasks ++ task ∷ [])) ≡ length (instructions_of task.p tasks) + 1
pushed_own tasks task =
    ap length (instructions_pushed task.p tasks task ∙ ap (λ b. instructions_of task.p tasks ++ cond b (task.instruction ∷ []) []) (eq-eqb task.p task.p refl))
    ∙ length-append (instructions_of task.p tasks) (task.instruction ∷ [])

pushed_other : (tasks : List Task) (task : Task) (q : ℕ) → q ≢ task.p → instructions_of q (tasks ++ task ∷ []) ≡ instructions_of q tasks
pushed_other tasks task q away =
    instructions_pushed q tasks task ∙ ap (λ b. instructions_of q tasks ++ cond b (task.instruction ∷ []) []) (ne_eqb task.p q (λ e. away (sym e))) ∙ append-nil (instructions_of q tasks)

carries : (script : Scripted) (k : ℕ) (r : Recording) (xs : List Processor) (task : Task) (x : Processor) (t : Turned) (receipt : Receipt) → AreCarriedOut script k r xs → slice_get script.tasks k ≡ Some task → slice_get xs task.p ≡ Some x
    → IsTurn task.p r x t → t.answer ≡ Done receipt → Carries task.p r x t → AreCarriedOut script (k + 1) t.world (slice_set xs task.p t.processor)
carries script k r xs task x t receipt before at here turn answer left =
    let more : take (k + 1) script.tasks ≡ take k script.tasks ++ task ∷ [] = take_one script.tasks k task at in
    let same : left.instruction ≡ task.instruction = same_Some left.instruction task.instruction (sym left.next ∙ next_is script k r xs task x before at here) in
    let line : tasks_of t.world.events ≡ take k script.tasks ++ task ∷ [] =
    left.tasks ∙ ap (λ ts. ts ++ record { p = task.p; instruction = left.instruction } ∷ []) before.lines ∙ ap (λ i. take k script.tasks ++ record { p = task.p; instruction = i } ∷ []) same in
    let own : t.processor.place ≡ length (instructions_of task.p (take (k + 1) script.tasks)) =
    left.place ∙ ap (λ n. n + 1) (before.places task.p x here) ∙ sym (pushed_own (take k script.tasks) task) ∙ ap (λ ts. length (instructions_of task.p ts)) (sym more) in
    let by : GoBy script.tasks (k + 1) (before.runs.turns ++ task.p ∷ []) (before.runs.answers ++ t.answer ∷ []) =
    subst (λ a. GoBy script.tasks (k + 1) (before.runs.turns ++ task.p ∷ []) (before.runs.answers ++ a ∷ [])) (sym answer)
    (by_one_done script.tasks k before.runs.turns before.runs.answers task receipt at (before.order, before.left)) in record {
      runs = one_turn_more script r xs task.p x t before.runs here turn;
      order = by.0;
      left = by.1;
      lines = line ∙ sym more;
      places = each_processor (λ q z. z.place ≡ length (instructions_of q (take (k + 1) script.tasks))) xs task.p x t.processor here own
          (λ q z away there. before.places q z there ∙ ap length (sym (pushed_other (take k script.tasks) task q away)) ∙ ap (λ ts. length (instructions_of q ts)) (sym more));
    }

-- what a turn of the next line's processor leaves, by its answer
abbrev pub Leaves : Scripted → ℕ → Recording → List Processor → Advance → Type 0
Leaves script k r xs (Read level) = AreCarriedOut script k r xs
Leaves script k r xs (Assisted receipt) = AreCarriedOut script k r xs
Leaves script k r xs (Done receipt) = AreCarriedOut script (k + 1) r xs
Leaves script k r xs Ended = ⊥
Leaves script k r xs (Stopped why) = why ≡ stops.Memory

finishes : (full finished : Bool) → finished ≡ false → cond full (Some stops.Full) (cond finished (Some stops.Finished) None) ≡ Some stops.Finished → ⊥
finishes true false going_on is = cc
finishes false false going_on is = cc
finishes true true going_on is = cc
finishes false true going_on is = cc

pub not_finished : (r : Recording) (due : Advance) (why : Stop) → r.finished ≡ false → MayStop r due why → why ≢ stops.Finished
not_finished r due why going_on (inl memory) same = let contrary : stops.Memory ≡ stops.Finished = sym memory ∙ same in absurd (cc)
not_finished r (Read level) why going_on (inr refused) same = finishes false r.finished going_on (refused ∙ ap Some same)
not_finished r (Assisted receipt) why going_on (inr refused) same = finishes (is_full r) r.finished going_on (refused ∙ ap Some same)
not_finished r (Done receipt) why going_on (inr refused) same = finishes (is_full r) r.finished going_on (refused ∙ ap Some same)
not_finished r Ended why going_on (inr refused) same = absurd (cc)
not_finished r (Stopped w) why going_on (inr refused) same = absurd (cc)

refuses_nothing : (full finished : Bool) (why : Stop) → full ≡ false → finished ≡ false → cond full (Some stops.Full) (cond finished (Some stops.Finished) None) ≡ Some why → ⊥
refuses_nothing false false why empty going_on is = cc
refuses_nothing false true why empty going_on is = cc
refuses_nothing true finished why empty going_on is = cc

-- a record that is neither full nor finished refuses nothing unless out of memory
for_memory : (r : Recording) (due : Advance) (why : Stop) → is_full r ≡ false → r.finished ≡ false → MayStop r due why → why ≡ stops.Memory
for_memory r due why empty going_on (inl memory) = memory
for_memory r (Read level) why empty going_on (inr refused) = absurd (refuses_nothing false r.finished why refl going_on refused)
for_memory r (Assisted receipt) why empty going_on (inr refused) = absurd (refuses_nothing (is_full r) r.finished why empty going_on refused)
for_memory r (Done receipt) why empty going_on (inr refused) = absurd (refuses_nothing (is_full r) r.finished why empty going_on refused)
for_memory r Ended why empty going_on (inr refused) = absurd (cc)
for_memory r (Stopped w) why empty going_on (inr refused) = absurd (cc)

reading_keeps : (a : Advance) (level : Level) → a ≡ Read level → KeepsLine a
reading_keeps a level is task later = ap (λ x. lines_left x (task ∷ later)) is

assisting_keeps : (a : Advance) (receipt : Receipt) → a ≡ Assisted receipt → KeepsLine a
assisting_keeps a receipt is task later = ap (λ x. lines_left x (task ∷ later)) is

by_answer : (script : Scripted) (k : ℕ) (r : Recording) (xs : List Processor) (task : Task) (x : Processor) (t : Turned) → IsScript script → AreCarriedOut script k r xs → slice_get script.tasks k ≡ Some task
    → slice_get xs task.p ≡ Some x → IsTurn task.p r x t → (a : Advance) → t.answer ≡ a → AddsBy task.p r x t a → Leaves script k t.world (slice_set xs task.p t.processor) a
by_answer script k r xs task x t is before at here turn (Read level) same adds =
    stays script k r xs task x t before at here turn adds (reading_keeps t.answer level same)
by_answer script k r xs task x t is before at here turn (Assisted receipt) same adds =
    stays script k r xs task x t before at here turn adds (assisting_keeps t.answer receipt same)
by_answer script k r xs task x t is before at here turn (Done receipt) same adds = carries script k r xs task x t receipt before at here turn same adds
by_answer script k r xs task x t is before at here turn Ended same adds = let contrary : Some task.instruction ≡ None = sym (next_is script k r xs task x before at here) ∙ adds in absurd (cc)
by_answer script k r xs task x t is before at here turn (Stopped why) same adds =
    for_memory r (turned task.p r x).answer why (never_full script r xs is before.runs) (open_of script r xs before.runs) adds

turn_leaves : (script : Scripted) (k : ℕ) (r : Recording) (xs : List Processor) (task : Task) (x : Processor) (t : Turned) → IsScript script → AreCarriedOut script k r xs → slice_get script.tasks k ≡ Some task
    → slice_get xs task.p ≡ Some x → IsTurn task.p r x t → Leaves script k t.world (slice_set xs task.p t.processor) t.answer
turn_leaves script k r xs task x t is before at here turn =
    by_answer script k r xs task x t is before at here turn t.answer refl (turn_adds task.p r x t ((told_of script r xs is before.runs).well task.p x here) turn)

-- the same of one turn as a core run
pub one_turn_leaves : (script : Scripted) (k : ℕ) (r : Recording) (xs : List Processor) (task : Task) (p : ℕ) (a : Advance) (end : Recording) (ys : List Processor) → IsScript script → AreCarriedOut script k r xs
    → slice_get script.tasks k ≡ Some task → task.p ≡ p → IsCoreRun r xs (p ∷ []) (a ∷ []) end ys → Leaves script k end ys a
one_turn_leaves script k r xs task p a end ys is before at own run =
    let t : Turned = run.1 in
    let here : slice_get xs task.p ≡ Some run.0 = ap (slice_get xs) own ∙ run.3 in
    let turn : IsTurn task.p r run.0 t = subst (λ q. IsTurn q r run.0 t) (sym own) run.4 in
    let answer : a ≡ t.answer = first_same a t.answer [] run.2 run.5 in
    let left : Leaves script k t.world (slice_set xs task.p t.processor) t.answer = turn_leaves script k r xs task run.0 t is before at here turn in
    let there : slice_set xs task.p t.processor ≡ ys = ap (λ q. slice_set xs q t.processor) own ∙ sym run.6.2 in
    subst (λ zs. Leaves script k end zs a) there
    (subst (λ e. Leaves script k e (slice_set xs task.p t.processor) a) (sym run.6.1) (subst (Leaves script k t.world (slice_set xs task.p t.processor)) (sym answer) left))
  where
    first_same : (a b : Advance) (xs ys : List Advance) → a ∷ xs ≡ b ∷ ys → a ≡ b
    first_same a b xs ys e = cc

-- ---- how near it has come

-- it has come so near, and never comes nearer than 8
pub record IsNear (n p : ℕ) (r : Recording) (xs : List Processor) : Type 0 where
  pub most : n ≤ 8
  pub near : (x : Processor) → slice_get xs p ≡ Some x → n ≤ measure p r x

pub none_is_near : (p : ℕ) (r : Recording) (xs : List Processor) → IsNear 0 p r xs
none_is_near p r xs = record { most = omega arith; near = λ x at. omega arith }

-- whether the line's processor is to have one turn more
abbrev pub goes_on : Advance → Bool
goes_on (Read level) = true
goes_on (Assisted receipt) = true
goes_on (Done receipt) = false
goes_on Ended = false
goes_on (Stopped why) = false

going_not_stopped : (a : Advance) → goes_on a ≡ true → is_stopped a ≡ false
going_not_stopped (Read level) on = refl
going_not_stopped (Assisted receipt) on = refl
going_not_stopped (Done receipt) on = refl
going_not_stopped Ended on = refl
going_not_stopped (Stopped why) on = absurd (cc)

nearer : (n : ℕ) (p : ℕ) (r : Recording) (xs : List Processor) (x : Processor) (t : Turned) → IsNear n p r xs → slice_get xs p ≡ Some x → ComesNearer p r x t → IsNear (n + 1) p t.world (slice_set xs p t.processor)
nearer n p r xs x t near here comes =
    let so : n ≤ measure p r x = near.near x here in
    let more : n + 1 ≤ measure p t.world t.processor = omega (arith, so, comes.nearer) in record {
      most = omega (arith, more, comes.most);
      near = λ y at. subst (λ (z : Processor). n + 1 ≤ measure p t.world z) (same_Some t.processor y (sym (set_here xs p x t.processor here) ∙ at)) more;
    }

pub one_turn_nearer : (script : Scripted) (k n : ℕ) (r : Recording) (xs : List Processor) (task : Task) (p : ℕ) (a : Advance) (end : Recording) (ys : List Processor) → IsScript script → AreCarriedOut script k r xs
    → slice_get script.tasks k ≡ Some task → task.p ≡ p → IsCoreRun r xs (p ∷ []) (a ∷ []) end ys → goes_on a ≡ true → IsNear n p r xs → IsNear (n + 1) p end ys
one_turn_nearer script k n r xs task p a end ys is before at own run on near =
    let t : Turned = run.1 in
    let here : slice_get xs task.p ≡ Some run.0 = ap (slice_get xs) own ∙ run.3 in
    let due : run.0.place < length run.0.instructions = is_due script k r xs task run.0 before at here in
    let answer : a ≡ t.answer = first_same a t.answer [] run.2 run.5 in
    let going : goes_on t.answer ≡ true = ap goes_on (sym answer) ∙ on in
    let head : IsHead r.head = subst IsHead (sym (head_of script r xs before.runs)) is.head in
    let home = (quiet_of script r xs before.runs).at_home p run.0 run.3 in
    let comes : IsNear (n + 1) p t.world (slice_set xs p t.processor) = elim (turns_come_nearer p r run.0 t head home run.4 due (going_not_stopped t.answer going)) [
      | inl carried ↦ let contrary : false ≡ true = ap goes_on (sym carried.answer) ∙ going in absurd (cc)
      | inr comes ↦ nearer n p r xs run.0 t near run.3 comes
    ] in
    subst (λ zs. IsNear (n + 1) p end zs) (sym run.6.2) (subst (λ e. IsNear (n + 1) p e (slice_set xs p t.processor)) (sym run.6.1) comes)
  where
    first_same : (a b : Advance) (xs ys : List Advance) → a ∷ xs ≡ b ∷ ys → a ≡ b
    first_same a b xs ys e = cc

-- ---- a turn that carries nothing out

-- a level was read, or a flag was set
abbrev pub GoesOn : Advance → Type 0
GoesOn a = ((level : Level) × (a ≡ Read level)) ⊎ ((receipt : Receipt) × (a ≡ Assisted receipt))

pub still_going : (a : Advance) → GoesOn a → goes_on a ≡ true
still_going a (inl read) = ap goes_on read.1
still_going a (inr assisted) = ap goes_on assisted.1

pub still_there : (script : Scripted) (k : ℕ) (r : Recording) (xs : List Processor) (a : Advance) → GoesOn a → Leaves script k r xs a → AreCarriedOut script k r xs
still_there script k r xs a (inl read) left = subst (Leaves script k r xs) read.1 left
still_there script k r xs a (inr assisted) left = subst (Leaves script k r xs) assisted.1 left
