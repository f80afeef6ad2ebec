use Rattle.std.proofs.Common.{◌≡◌, ◌≤◌, ◌++◌, drop, string_bytes}
use Rattle.pg_answers.specs.Runs.{lines_from, run_text}
use Rattle.pg_answers.proofs.runs.run_text.Given as goal

abbrev pub invariant-loop-step : goal.invariant-loop-step
invariant-loop-step l = record {
  few : l.number ≤ l.step-index;
  text : string_bytes l.text ++ lines_from l.number (drop l.step-index l.steps) ≡ run_text l.steps;
}
