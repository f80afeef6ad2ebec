use Rattle.std.proofs.Common.{take}
use Rattle.pg_answers.specs.Answers.{AreExplanations}
use Rattle.pg_answers.proofs.summaries.each_by.Given as goal

abbrev pub invariant-loop-bad : goal.invariant-loop-bad
invariant-loop-bad l =
    AreExplanations l.history.head l.history.events (take l.bad-index l.found) l.causes.items
