use Rattle.std.proofs.Common.{length}
use Rattle.pg_search.proofs.fresh.+are_as_fresh.Given as goal

abbrev pub decreases-are_as_fresh : goal.decreases-are_as_fresh
decreases-are_as_fresh l = length l.a.now
