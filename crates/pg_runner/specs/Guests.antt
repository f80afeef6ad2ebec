-- Runs of guest scripts whose processors carry their instructions out in threads.
use Rattle.std.specs.Prelude.{◌≡◌, ◌≢◌, ℕ, List, map, slice_get}
use Rattle.pg_runner.specs.Boards.{HasToldAll}
use Rattle.pg_guest.specs.Turn.{Processor}
use Rattle.pg_report.specs.declared.report.Verdict.TheVariants.{Yes}
use Rattle.pg_report.specs.Text.{report_of}
use Rattle.pg_runner.specs.declared.result.RunResult.{RunResult}
use Rattle.pg_runner.specs.Runs.{IsRunOfScript, record_of}
use Rattle.pg_guest.specs.Reading.{Scripted}

-- a run of the script's processors, whose turns came in whatever order, and its report is a yes
pub record IsGuestRun (script : Scripted) (result : RunResult) : Type 0 where
  pub run : IsRunOfScript script (record_of result.trace)
      (map (λ own. own.items) result.transcripts.items)
  pub report : result.report ≡ report_of (record_of result.trace)
  pub yes : result.report.verdict ≡ Yes

-- ---- what ends a run

-- of each processor all instructions stand in its transcript
abbrev pub HaveToldAll : List Processor → Type 0
HaveToldAll xs = (p : ℕ) → HasToldAll p xs

-- no processor but p changed
abbrev pub StayBut : ℕ → List Processor → List Processor → Type 0
StayBut p old new = (q : ℕ) → q ≢ p → slice_get new q ≡ slice_get old q
