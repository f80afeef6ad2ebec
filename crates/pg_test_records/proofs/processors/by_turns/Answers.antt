use Rattle.pg_test_records.proofs.processors.by_turns.Goals as goal

pub last_of-requires-clause-placed : goal.last_of-requires-clause-placed
last_of-requires-clause-placed c = rw c.deref_mut.ensures.value c.in_ok-world.ensures
