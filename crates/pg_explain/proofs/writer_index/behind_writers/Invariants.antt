use Rattle.pg_explain.proofs.Noted.{AreFirst}
use Rattle.pg_explain.proofs.writer_index.behind_writers.Given as goal

abbrev pub invariant-loop-i : goal.invariant-loop-i
invariant-loop-i l = AreFirst l.events l.i l.behind
