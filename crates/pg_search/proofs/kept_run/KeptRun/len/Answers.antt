use Rattle.std.proofs.Common.{length, ap, sym, ◌∙◌, arith}
use Rattle.pg_event.specs.Spelling.{Recorded}
use Rattle.pg_search.proofs.Briefs.{events_count}
use Rattle.pg_search.proofs.kept_run.KeptRun.len.Goals as goal

pub returns-clause-length : goal.returns-clause-length
returns-clause-length c =
    let s = c.self.inside in
    sym (events_count s.past.versions s.pairs.items s.briefs.items 0 s.count) ∙ ap (λ (r : Recorded). length r.events) c.self.view_is

pub returns-clause-within : goal.returns-clause-within
returns-clause-within c =
    let s = c.self.inside in
    omega (arith, events_count s.past.versions s.pairs.items s.briefs.items 0 s.count, c.self.invariant.0.seen.count)
