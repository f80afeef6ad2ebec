use Rattle.pg_machine.proofs.Changes.{started_whole, started_lists}
use Rattle.pg_machine.proofs.machine.Machine.start.Goals as goal

pub invariant_of-result : goal.invariant_of-result
invariant_of-result c =
    started_whole c.args.header.now c.in_ok-header.header c.in_ok-processors.processors.items c.new.result c.requires.width c.in_ok-header.ensures c.in_ok-processors.ensures

pub returns-clause-state : goal.returns-clause-state
returns-clause-state c =
    started_lists c.args.header.now c.in_ok-header.header c.in_ok-processors.processors.items c.new.result c.in_ok-header.ensures c.in_ok-processors.ensures c.new.ensures
