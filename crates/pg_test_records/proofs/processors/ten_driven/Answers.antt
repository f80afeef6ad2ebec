use Rattle.pg_test_records.proofs.processors.ten_driven.Goals as goal

pub drive-requires-clause-placed : goal.drive-requires-clause-placed
drive-requires-clause-placed c = rw c.deref_mut.ensures.value c.in_ok-world.ensures
