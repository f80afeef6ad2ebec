use Rattle.std.proofs.Common.{List, length}
use Rattle.pg_event.specs.declared.event.Event.{Event}
use Rattle.pg_event.specs.Heads.{Head}
use Rattle.pg_pool.specs.Rounds.{round}
use Rattle.pg_pool.specs.Verdicts.{AreVerdicts}
use Rattle.pg_certify.specs.Segments.{IsAnswer}
use Rattle.pg_certify.proofs.Segments.{FoundBelow}
use Rattle.pg_certify.proofs.segment_checkers.least_of.Given as goal

abbrev pub invariant-loop-answer : goal.invariant-loop-answer
invariant-loop-answer l =
    (head : Head) (events : List Event) → AreVerdicts (IsAnswer head events) (round 0 (length l.answers)) l.answers → FoundBelow head events l.answer-index
