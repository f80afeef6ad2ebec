use Rattle.pg_test_records.proofs.processors.finished_turns.Goals as goal

pub drive-requires-clause-placed : goal.drive-requires-clause-placed
drive-requires-clause-placed c = rw (c.deref_mut.ensures.value, c.finish.ensures) c.in_ok-world.ensures
