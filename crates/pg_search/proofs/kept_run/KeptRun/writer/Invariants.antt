use Rattle.pg_search.proofs.Briefs.{IsLastWriter}
use Rattle.pg_search.specs.Briefs.{events_from}
use Rattle.pg_search.proofs.kept_run.KeptRun.writer.Given as goal

abbrev pub invariant-loop-brief : goal.invariant-loop-brief
invariant-loop-brief l =
    let s = l.self-inside in
    IsLastWriter (events_from s.past.versions s.pairs.items s.briefs.items 0 s.count) s.briefs.items l.address l.moment l.brief-index l.last
