-- Runs of guest scripts on one thread, line by line.
use Rattle.std.specs.Prelude.{◌≡◌, ℕ, List, [], ◌∷◌, length, map, take, drop, Option, Some, None}
use Rattle.std.specs.Prelude.{slice_get}
use Rattle.std.specs.List.{flat_map}
use Rattle.pg_event.specs.declared.event.Event.{Event}
use Rattle.pg_event.specs.Form.{processor_of}
use Rattle.pg_event.specs.Spelling.{Recorded}
use Rattle.pg_guest.specs.declared.instruction.Instruction.{Instruction}
use Rattle.pg_guest.specs.declared.instruction.Task.{Task}
use Rattle.pg_guest.specs.Reading.{Scripted}
use Rattle.pg_guest.specs.Tasks.{instructions_of, shape}
use Rattle.pg_world.specs.declared.receipt.Receipt.{Receipt}
use Rattle.pg_world.specs.Recording.{Recording}
use Rattle.pg_guest.specs.declared.advance.Advance.{Advance}
use Rattle.pg_guest.specs.declared.advance.Advance.TheVariants.{Read, Assisted, Done}
use Rattle.pg_guest.specs.declared.advance.Advance.TheVariants.{Ended, Stopped}
use Rattle.pg_guest.specs.Turn.{Processor}
use Rattle.pg_report.specs.declared.report.Verdict.TheVariants.{Yes}
use Rattle.pg_report.specs.Text.{report_of}
use Rattle.pg_runner.specs.declared.result.RunResult.{RunResult}
use Rattle.pg_runner.specs.Runs.{IsRunOfScript, RunsTo, record_of}

-- the instruction that an event of a processor carries out; an assist carries none out
abbrev pub carried : ℕ → Option Instruction → List Task
carried p None = []
carried p (Some instruction) = record { p = p; instruction = instruction } ∷ []

-- the instructions that events carried out, with their processors, in the order of the events
abbrev pub tasks_of : List Event → List Task
tasks_of events = flat_map (λ e. carried (processor_of e) (shape e)) events

-- ---- whose turns come, line by line

-- the lines that are left where a turn for the first of them answered so
abbrev pub lines_left : Advance → List Task → List Task
lines_left answer [] = []
lines_left (Read level) (task ∷ tasks) = task ∷ tasks
lines_left (Assisted receipt) (task ∷ tasks) = task ∷ tasks
lines_left (Done receipt) (task ∷ tasks) = tasks
lines_left Ended (task ∷ tasks) = task ∷ tasks
lines_left (Stopped why) (task ∷ tasks) = task ∷ tasks

-- and where turns did, one after another
abbrev pub lines_after : List Task → List Advance → List Task
lines_after tasks [] = tasks
lines_after tasks (answer ∷ answers) = lines_after (lines_left answer tasks) answers

-- whose turns they were: each was given to the processor of the first line that was left
abbrev pub turns_by : List Task → List Advance → List ℕ
turns_by tasks [] = []
turns_by [] (answer ∷ answers) = []
turns_by (task ∷ tasks) (answer ∷ answers) =
    task.p ∷ turns_by (lines_left answer (task ∷ tasks)) answers

-- ---- runs

-- a run of the script's processors carries out its lines in their order, each to its end before the
-- next one begins
pub record CarriesOutLines (script : Scripted) (r : Recorded) (receipts : List (List Receipt)) :
    Type 0 where
  pub run : IsRunOfScript script r receipts
  pub lines : tasks_of r.events ≡ script.tasks
  pub order : run.runs.turns ≡ turns_by script.tasks run.runs.answers
  pub left : lines_after script.tasks run.runs.answers ≡ []

-- and its report is a yes
pub record IsSingleRun (script : Scripted) (result : RunResult) : Type 0 where
  pub run : CarriesOutLines script (record_of result.trace)
      (map (λ own. own.items) result.transcripts.items)
  pub report : result.report ≡ report_of (record_of result.trace)
  pub yes : result.report.verdict ≡ Yes

-- After the first so many lines: these are carried out and no other, each to its end before the
-- next, and each processor is to carry out the first of its instructions that is not among them
pub record AreCarriedOut (script : Scripted) (k : ℕ) (r : Recording) (xs : List Processor) : Type 0
  where
    pub runs : RunsTo script r xs
    pub order : runs.turns ≡ turns_by script.tasks runs.answers
    pub left : lines_after script.tasks runs.answers ≡ drop k script.tasks
    pub lines : tasks_of r.events ≡ take k script.tasks
    pub places : (p : ℕ) (x : Processor) → slice_get xs p ≡ Some x →
        x.place ≡ length (instructions_of p (take k script.tasks))
