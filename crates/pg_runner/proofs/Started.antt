-- What holds of every run of a script's processors.
use Rattle.std.proofs.Common.{◌≡◌, ℕ, zero, suc, false, List, [], ◌∷◌, ◌++◌, length, refl, sym, ◌∙◌, ap, subst, arith, Some}
use Rattle.std.specs.Prelude.{slice_get, slice_set}
use Rattle.pg_guest.specs.Reading.{Scripted, IsScript}
use Rattle.pg_guest.specs.Tasks.{instructions_of}
use Rattle.pg_guest.proofs.Wells.{own_well}
use Rattle.pg_world.specs.Recording.{Recording}
use Rattle.pg_guest.specs.CoreRun.{unwritten}
use Rattle.pg_guest.specs.Laws.{IsQuiet, AreFresh}
use Rattle.pg_guest.specs.Leaves.{LeaveAll}
use Rattle.pg_guest.specs.Transcripts.{AreTold, AreWellFormed, IsTold}
use Rattle.pg_guest.specs.Turn.{Processor, Turned, IsTurn}
use Rattle.pg_guest.proofs.CoreRuns.{core_runs_keep_quiet, core_runs_go_on, fresh_are_quiet}
use Rattle.pg_guest.proofs.Leaves.{core_runs_leave}
use Rattle.pg_guest.proofs.Transcripts.{core_runs_are_told, fresh_are_told}
use Rattle.pg_runner.specs.Runs.{AreStarted, RunsTo}

-- ---- before the first turn

started_fresh : (script : Scripted) (xs : List Processor) → AreStarted script xs → AreFresh script.head xs
started_fresh script xs started p x at = (instructions_of p script.tasks, started.each p x at)

started_told : (script : Scripted) (xs : List Processor) → IsScript script → AreStarted script xs → AreTold (unwritten script.head) xs
started_told script xs is started = record {
  well = λ p x at. subst (AreWellFormed script.head p) (sym (started.each p x at)) (own_well script.head p script.tasks is.well);
  told = λ p x at. subst (IsTold [] p) (sym (started.each p x at)) (fresh_are_told script.head p (instructions_of p script.tasks));
}

-- ---- after some turns

pub quiet_of : (script : Scripted) (r : Recording) (xs : List Processor) → RunsTo script r xs → IsQuiet r xs
quiet_of script r xs to =
    core_runs_keep_quiet (unwritten script.head) to.start to.turns to.answers r xs (fresh_are_quiet script.head to.start (started_fresh script to.start to.started)) to.run

pub told_of : (script : Scripted) (r : Recording) (xs : List Processor) → IsScript script → RunsTo script r xs → AreTold r xs
told_of script r xs is to =
    core_runs_are_told (unwritten script.head) to.start to.turns to.answers r xs (started_told script to.start is to.started) to.run

pub left_of : (script : Scripted) (r : Recording) (xs : List Processor) (to : RunsTo script r xs) → LeaveAll (unwritten script.head) r to.start xs
left_of script r xs to = core_runs_leave (unwritten script.head) to.start to.turns to.answers r xs to.run

pub head_of : (script : Scripted) (r : Recording) (xs : List Processor) → RunsTo script r xs → r.head ≡ script.head
head_of script r xs to = (left_of script r xs to).head

pub open_of : (script : Scripted) (r : Recording) (xs : List Processor) → RunsTo script r xs → r.finished ≡ false
open_of script r xs to = (left_of script r xs to).finished

pub count_of : (script : Scripted) (r : Recording) (xs : List Processor) → RunsTo script r xs → length xs ≡ length script.head.processors
count_of script r xs to = (left_of script r xs to).count ∙ to.started.count

-- lists of one length have elements at the same places
there_too : (xs ys : List Processor) (p : ℕ) (y : Processor) → length ys ≡ length xs → slice_get ys p ≡ Some y → (x : Processor) × (slice_get xs p ≡ Some x)
there_too [] [] p y same at = absurd (cc)
there_too [] (z ∷ ys) p y same at = absurd (omega (arith, same))
there_too (x ∷ xs) [] p y same at = absurd (cc)
there_too (x ∷ xs) (z ∷ ys) zero y same at = (x, refl)
there_too (x ∷ xs) (z ∷ ys) (suc p) y same at = let less : length ys ≡ length xs = omega (arith, same) in there_too xs ys p y less at

pub instructions_are : (script : Scripted) (r : Recording) (xs : List Processor) → RunsTo script r xs → (p : ℕ) (x : Processor) → slice_get xs p ≡ Some x → x.instructions ≡ instructions_of p script.tasks
instructions_are script r xs to p x at =
    let left = left_of script r xs to in
    let there = there_too to.start xs p x left.count at in
    (left.each p there.0 x there.1 at).0 ∙ ap (λ (y : Processor). y.instructions) (to.started.each p there.0 there.1)

abbrev pub one_turn_more : (script : Scripted) (r : Recording) (xs : List Processor) (p : ℕ) (x : Processor) (t : Turned) → RunsTo script r xs → slice_get xs p ≡ Some x → IsTurn p r x t →
    RunsTo script t.world (slice_set xs p t.processor)
one_turn_more script r xs p x t to here turn = record {
  start = to.start;
  started = to.started;
  turns = to.turns ++ p ∷ [];
  answers = to.answers ++ t.answer ∷ [];
  run = core_runs_go_on (unwritten script.head) to.start to.turns to.answers r xs p x t to.run here turn;
}
