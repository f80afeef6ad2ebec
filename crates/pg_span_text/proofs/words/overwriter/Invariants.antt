use Rattle.std.proofs.Common.{◌≡◌, drop}
use Rattle.pg_span_text.specs.Words.{overwriter}
use Rattle.pg_span_text.proofs.words.overwriter.Given as goal

abbrev pub invariant-loop-written : goal.invariant-loop-written
invariant-loop-written l = overwriter (drop l.written-index l.writes) l.first l.bound ≡ overwriter l.writes l.first l.bound
