-- Where a run of the machine ends.
use Rattle.std.specs.Prelude.{List, [], ◌∷◌}
use Rattle.pg_event.specs.Heads.{Head}
use Rattle.pg_machine.specs.declared.step.Step.{Step}
use Rattle.pg_machine.specs.Machine.{State, start, after}

-- the state after steps that are taken from a state on
abbrev pub state_behind : Head → State → List Step → State
state_behind head s [] = s
state_behind head s (step ∷ steps) = state_behind head (after head s step) steps

-- the state after a run
abbrev pub end_of_run : Head → List Step → State
end_of_run head steps = state_behind head (start head) steps
