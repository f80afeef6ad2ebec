use Rattle.std.proofs.Common.{◌≡◌, drop}
use Rattle.pg_machine.specs.Machine.{RunsFrom}
use Rattle.pg_machine.specs.Listed.{state_of}
use Rattle.pg_answers.specs.Replay.{state_behind, end_of_run}
use Rattle.pg_answers.proofs.replayer.replay.Given as goal

abbrev pub invariant-loop-step : goal.invariant-loop-step
invariant-loop-step l = record {
  head : l.machine.head ≡ l.header;
  rest : RunsFrom l.header (state_of l.machine) (drop l.step-index l.steps);
  end : state_behind l.header (state_of l.machine) (drop l.step-index l.steps) ≡ end_of_run l.header l.steps;
}
