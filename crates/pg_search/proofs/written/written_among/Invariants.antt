use Rattle.pg_search.proofs.Listed.{HaveBefore}
use Rattle.pg_search.proofs.written.written_among.Given as goal

abbrev pub invariant-loop-i : goal.invariant-loop-i
invariant-loop-i l = HaveBefore l.events l.moment l.i l.found.items
