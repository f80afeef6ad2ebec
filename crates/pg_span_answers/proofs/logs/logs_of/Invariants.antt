use Rattle.std.proofs.Common.{map, take}
use Rattle.pg_span_answers.specs.Merges.{AreLogsOf}
use Rattle.pg_span_answers.specs.Openings.{opens}
use Rattle.pg_span_answers.proofs.logs.logs_of.Given as goal

abbrev pub invariant-loop-place : goal.invariant-loop-place
invariant-loop-place g l = AreLogsOf (opens g.F.Fn g.S.Source l.opener) (take l.place (map (λ s. s.now) l.names)) l.logs.items
