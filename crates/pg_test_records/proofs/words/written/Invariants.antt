use Rattle.std.proofs.Common.{◌≤◌}
use Rattle.pg_moment.specs.Versions.{next_moment}
use Rattle.pg_test_records.proofs.words.written.Given as goal

abbrev pub invariant-loop-i : goal.invariant-loop-i
invariant-loop-i l = next_moment l.versions ≤ l.i
