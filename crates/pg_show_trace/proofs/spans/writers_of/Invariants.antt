use Rattle.std.proofs.Common.{◌≡◌, ◌++◌, drop}
use Rattle.pg_show_trace.specs.Spans.{writers_of}
use Rattle.pg_show_trace.proofs.spans.writers_of.Given as goal

abbrev pub invariant-loop-entry : goal.invariant-loop-entry
invariant-loop-entry l =
    l.sources.items ++ writers_of l.run l.number (drop l.entry-index l.seen)
    ≡ writers_of l.run l.number l.seen
