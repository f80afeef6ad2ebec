use Rattle.pg_search.specs.Writers.{IsWriter}
use Rattle.pg_search.proofs.seen.writer_among.Given as goal

abbrev pub invariant-loop-i : goal.invariant-loop-i
invariant-loop-i l = IsWriter l.events l.address l.i l.last
