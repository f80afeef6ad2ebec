use Rattle.pg_search.proofs.Listed.{HaveOfFirst}
use Rattle.pg_search.specs.Briefs.{events_from}
use Rattle.pg_search.proofs.kept_run.KeptRun.written.Given as goal

abbrev pub invariant-loop-brief : goal.invariant-loop-brief
invariant-loop-brief l =
    let s = l.self-inside in
    HaveOfFirst (events_from s.past.versions s.pairs.items s.briefs.items 0 s.count) s.briefs.items l.moment l.brief-index l.found.items
