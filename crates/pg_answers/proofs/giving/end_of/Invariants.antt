use Rattle.std.proofs.Common.{◌≡◌, drop}
use Rattle.pg_answers.specs.Giving.{end_of}
use Rattle.pg_answers.proofs.giving.end_of.Given as goal

abbrev pub invariant-loop-entry : goal.invariant-loop-entry
invariant-loop-entry l = end_of (drop l.entry-index l.walk) ≡ end_of l.walk
