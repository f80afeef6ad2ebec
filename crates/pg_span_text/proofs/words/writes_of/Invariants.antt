use Rattle.std.proofs.Common.{◌≡◌, ◌++◌, drop}
use Rattle.pg_span_text.specs.Words.{writes_from}
use Rattle.pg_span_text.proofs.words.writes_of.Given as goal

abbrev pub invariant-loop-i : goal.invariant-loop-i
invariant-loop-i l =
    l.writes.items ++ writes_from l.run l.asked l.address l.i (drop l.i l.events)
    ≡ writes_from l.run l.asked l.address 0 l.events
