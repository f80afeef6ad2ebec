-- What the machine may do whose processors are held to fewer rules.
use Rattle.std.specs.Prelude.{List}
use Rattle.pg_entry.specs.declared.Rules.{Rules}
use Rattle.pg_entry.specs.Rules.{AreAmong}
use Rattle.pg_event.specs.Heads.{Head, with_rules}
use Rattle.pg_machine.specs.declared.step.Step.{Step}
use Rattle.pg_machine.specs.Machine.{IsRun}

-- a run is a run under fewer rules too
abbrev pub RunsUnderFewerRules : Type 0
RunsUnderFewerRules = (head : Head) (fewer : Rules) → AreAmong fewer head.cfg.rules →
    (steps : List Step) → IsRun head steps → IsRun (with_rules head fewer) steps
