use Rattle.std.proofs.Common.{◌≡◌, drop}
use Rattle.pg_search.specs.Briefs.{brief_at}
use Rattle.pg_search.proofs.kept_run.KeptRun.event_at.Given as goal

abbrev pub invariant-loop-brief : goal.invariant-loop-brief
invariant-loop-brief l = brief_at (drop l.brief-index l.self-inside.briefs.items) l.number ≡ brief_at l.self-inside.briefs.items l.number
