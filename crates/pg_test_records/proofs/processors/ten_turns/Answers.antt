use Rattle.pg_test_records.proofs.processors.ten_turns.Goals as goal

pub last_of-last-requires-clause-placed : goal.last_of-last-requires-clause-placed
last_of-last-requires-clause-placed c = rw c.deref_mut.ensures.value c.in_ok-world.ensures
