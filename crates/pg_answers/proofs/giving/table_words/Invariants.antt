use Rattle.std.proofs.Common.{◌≡◌, ◌++◌, drop}
use Rattle.pg_answers.specs.Giving.{table_words}
use Rattle.pg_answers.proofs.giving.table_words.Given as goal

abbrev pub invariant-loop-entry : goal.invariant-loop-entry
invariant-loop-entry l =
    l.words.items ++ table_words (drop l.entry-index l.walk) ≡ table_words l.walk
