-- A board is the run of some script, before its first turn and after each call.
use Rattle.std.proofs.Common.{◌≡◌, ℕ, zero, suc, ◌+◌, ◌<◌, ◌≤◌, ⊎_elim, Bool, true, false, cond, List, [], ◌∷◌, length, map, refl, sym, ◌∙◌, ap, subst, arith, Some, Option, is_some, Result, Ok, Err, IfOk, OnErr}
use Rattle.std.specs.Prelude.{slice_get, slice_set}
use Rattle.std.specs.Option.{option_map}
use Rattle.std.proofs.Math.Nat.{le-suc_iff}
use Rattle.std.proofs.lemmas.List.{length-map}
use Rattle.std.proofs.lemmas.Option.{same_Some, slice_get-map, slice_get_within}
use Rattle.std.specs.declared.alloc.Global.{Global}
use Rattle.std.specs.declared.alloc.AllocError.{AllocError}
use Rattle.std.specs.declared.vec.Vec.{Vec}
use Rattle.pg_event.specs.declared.event.Event.{Event}
use Rattle.pg_event.specs.Heads.{Head}
use Rattle.pg_guest.specs.declared.instruction.Instruction.{Instruction}
use Rattle.pg_guest.specs.Reading.{Scripted, IsScript}
use Rattle.pg_guest.specs.Tasks.{instructions_of}
use Rattle.pg_guest.specs.Held.{Held, seen}
use Rattle.pg_guest.specs.Runs.{ArePlaced, AreNew}
use Rattle.pg_guest.specs.declared.advance.Advance.{Advance}
use Rattle.pg_guest.specs.declared.advance.Advance.TheVariants.{Ended}
use Rattle.pg_guest.specs.CoreRun.{IsCoreRun, unwritten}
use Rattle.pg_guest.specs.Laws.{IsQuiet}
use Rattle.pg_guest.specs.Transcripts.{AreTold, shapes_of}
use Rattle.pg_guest.specs.Turn.{Processor, Turned, fresh}
use Rattle.pg_guest.proofs.CoreRuns.{set_here}
use Rattle.pg_guest.proofs.Transcripts.{ended_have_told_all}
use Rattle.pg_world.specs.Recording.{Recording, with_taken}
use Rattle.pg_runner.specs.Runs.{AreStarted, RunsTo}
use Rattle.pg_runner.proofs.Started.{quiet_of, told_of, head_of, open_of, instructions_are, left_of, one_turn_more}
use Rattle.pg_runner.proofs.Whole.{none_carried}
use Rattle.pg_runner.specs.Boards.{HasToldAll, IsBoard, IsRunOf, untaken}
use Rattle.pg_runner.proofs.Untaken.{untake, turn_untaken}

-- ---- before the first turn

pub new_board : (script : Scripted) (r : Recording) (hs : List Held) → IsScript script → r ≡ unwritten script.head → AreNew script hs → IsBoard r hs
new_board script r hs is start new =
    let begun : RunsTo script (unwritten script.head) (map seen hs) = (none_carried script (unwritten script.head) hs refl new).runs in
    subst (λ (w : Recording). IsBoard w hs) (sym start) (record {
      script = script;
      is = is;
      run = record { runs = begun; placed = λ p h at. (new.each p h at).placed };
    })

-- ---- after a call

pub script_kept : (r end : Recording) (hs ys : List Held) (p : ℕ) (a : Advance) → IsCoreRun r (map seen hs) (p ∷ []) (a ∷ []) end (map seen ys) → ArePlaced end.head ys
    → (script : Scripted) → IsRunOf script r hs → IsRunOf script end ys
script_kept r end hs ys p a run placed script was =
    let t : Turned = run.1 in
    let more : RunsTo script (untaken t.world) (slice_set (map seen hs) p t.processor) =
    one_turn_more script (untaken r) (map seen hs) p run.0 (untake t) was.runs run.3 (turn_untaken p r run.0 t run.4) in
    let there : RunsTo script (untaken end) (map seen ys) =
    subst (λ (xs : List Processor). RunsTo script (untaken end) xs) (sym run.6.2) (subst (λ (w : Recording). RunsTo script (untaken w) (slice_set (map seen hs) p t.processor)) (sym run.6.1) more) in
    record { runs = there; placed = placed }

pub turned_board : (r end : Recording) (hs ys : List Held) (p : ℕ) (a : Advance) → IsBoard r hs → IsCoreRun r (map seen hs) (p ∷ []) (a ∷ []) end (map seen ys) → ArePlaced end.head ys → IsBoard end ys
turned_board r end hs ys p a board run placed = record {
  script = board.script;
  is = board.is;
  run = script_kept r end hs ys p a run placed board.script board.run;
}

-- a processor that has ended has told all its instructions
pub ended_told : (r end : Recording) (hs ys : List Held) (p : ℕ) (a : Advance) → IsBoard r hs → IsCoreRun r (map seen hs) (p ∷ []) (a ∷ []) end (map seen ys) → a ≡ Ended → HasToldAll p (map seen ys)
ended_told r end hs ys p a board run ended x at =
    let t : Turned = run.1 in
    let answer : t.answer ≡ Ended = sym (first_same a t.answer [] run.2 run.5) ∙ ended in
    let told = (told_of board.script (untaken r) (map seen hs) board.is board.run.runs).told p run.0 run.3 in
    let all = ended_have_told_all p r run.0 t told run.4 answer in
    let here : slice_get (map seen ys) p ≡ Some t.processor = ap (λ (xs : List Processor). slice_get xs p) run.6.2 ∙ set_here (map seen hs) p run.0 t.processor run.3 in
    subst (λ (y : Processor). shapes_of y.transcript ≡ y.instructions) (same_Some t.processor x (sym here ∙ at)) all
  where
    first_same : (a b : Advance) (xs ys : List Advance) → a ∷ xs ≡ b ∷ ys → a ≡ b
    first_same a b xs ys e = cc

pub given_out : (b : Bool) (r : Recording) (hs : List Held) → IsBoard r hs → IsBoard (cond b (with_taken r) r) hs
given_out false r hs board = board
given_out true r hs board = record { script = board.script; is = board.is; run = record { runs = board.run.runs; placed = board.run.placed } }

pub after_taking : (result : Result (Option (Vec Event Global)) AllocError) (old new : Recording) (hs : List Held) → IfOk result (λ taken. new ≡ cond (is_some taken) (with_taken old) old) → OnErr result (new ≡ old) → IsBoard old hs → IsBoard new hs
after_taking (Ok taken) old new hs ok err board = subst (λ (w : Recording). IsBoard w hs) (sym ok) (given_out (is_some taken) old hs board)
after_taking (Err e) old new hs ok err board = subst (λ (w : Recording). IsBoard w hs) (sym err) board

-- ---- of another script that says the same

-- what each of these processors has for its instructions
abbrev pub HaveInstructionsOf : Scripted → List Held → Type 0
HaveInstructionsOf script hs = (p : ℕ) (h : Held) → slice_get hs p ≡ Some h → h.instructions ≡ instructions_of h.number script.tasks

start_of_same : (s t : Scripted) (r : Recording) (hs : List Held) → (run : IsRunOf s r hs) → s.head ≡ t.head → HaveInstructionsOf t hs → AreStarted t run.runs.start
start_of_same s t r hs run head own = record {
  count = run.runs.started.count ∙ ap (λ (h : Head). length h.processors) head;
  each = λ p x at.
      let within : p < length hs = omega (arith, slice_get_within run.runs.start p x at, (left_of s (untaken r) (map seen hs) run.runs).count, length-map hs seen) in
      let one = held_at hs p within in
      let h : Held = one.0 in
      let seen_at : slice_get (map seen hs) p ≡ Some (seen h) = slice_get-map seen hs p ∙ ap (option_map seen) one.1 in
      let told : h.instructions ≡ instructions_of p s.tasks = instructions_are s (untaken r) (map seen hs) run.runs p (seen h) seen_at in
      let also : h.instructions ≡ instructions_of p t.tasks = own p h one.1 ∙ ap (λ n. instructions_of n t.tasks) (run.placed p h one.1).number in
      run.runs.started.each p x at ∙ ap (λ (i : List Instruction). fresh s.head p i) (sym told ∙ also) ∙ ap (λ (h : Head). fresh h p (instructions_of p t.tasks)) head;
}
  where
    held_at : (gs : List Held) (k : ℕ) → k < length gs → (h : Held) × (slice_get gs k ≡ Some h)
    held_at [] k below = absurd (omega (arith, below))
    held_at (g ∷ gs) zero below = (g, refl)
    held_at (g ∷ gs) (suc k) below = held_at gs k (omega (arith, below))

pub run_of_same : (t : Scripted) (r : Recording) (hs : List Held) → IsBoard r hs → r.head ≡ t.head → HaveInstructionsOf t hs → IsRunOf t r hs
run_of_same t r hs board same own =
    let run = board.run in
    let head : board.script.head ≡ t.head = sym (head_of board.script (untaken r) (map seen hs) run.runs) ∙ same in
    record {
      runs = record {
        start = run.runs.start;
        started = start_of_same board.script t r hs run head own;
        turns = run.runs.turns;
        answers = run.runs.answers;
        run = subst (λ (h : Head). IsCoreRun (unwritten h) run.runs.start run.runs.turns run.runs.answers (untaken r) (map seen hs)) head run.runs.run;
      };
      placed = run.placed;
    }

-- the first k of them have their instructions, and so has the next
pub own_one_more : (t : Scripted) (hs : List Held) (k : ℕ) (x : Held) → ((p : ℕ) (h : Held) → p < k → slice_get hs p ≡ Some h → h.instructions ≡ instructions_of h.number t.tasks)
    → slice_get hs k ≡ Some x → x.instructions ≡ instructions_of x.number t.tasks
    → (p : ℕ) (h : Held) → p < k + 1 → slice_get hs p ≡ Some h → h.instructions ≡ instructions_of h.number t.tasks
own_one_more t hs k x own next is p h below at =
    ⊎_elim (λ (less : suc p ≤ k). own p h (omega (arith, less)) at) (λ (last : suc p ≡ suc k).
    let place : k ≡ p = omega (arith, last) in
    let one : x ≡ h = same_Some x h (sym next ∙ ap (slice_get hs) place ∙ at) in
    subst (λ (y : Held). y.instructions ≡ instructions_of y.number t.tasks) one is) (le-suc_iff.0 (omega (arith, below)))

pub same_of_run : (t : Scripted) (r : Recording) (hs : List Held) → IsRunOf t r hs → (r.head ≡ t.head) × HaveInstructionsOf t hs
same_of_run t r hs run = (
  head_of t (untaken r) (map seen hs) run.runs,
  λ p h at.
      let seen_at : slice_get (map seen hs) p ≡ Some (seen h) = slice_get-map seen hs p ∙ ap (option_map seen) at in
      instructions_are t (untaken r) (map seen hs) run.runs p (seen h) seen_at ∙ ap (λ n. instructions_of n t.tasks) (sym (run.placed p h at).number),
)

-- ---- what follows

pub board_quiet : (r : Recording) (hs : List Held) → IsBoard r hs → IsQuiet r (map seen hs)
board_quiet r hs board =
    let quiet = quiet_of board.script (untaken r) (map seen hs) board.run.runs in
    record { accepted = quiet.accepted; at_home = quiet.at_home }

pub board_told : (r : Recording) (hs : List Held) → IsBoard r hs → AreTold r (map seen hs)
board_told r hs board =
    let told = told_of board.script (untaken r) (map seen hs) board.is board.run.runs in
    record { well = told.well; told = told.told }

pub board_open : (r : Recording) (hs : List Held) → IsBoard r hs → r.finished ≡ false
board_open r hs board = open_of board.script (untaken r) (map seen hs) board.run.runs
