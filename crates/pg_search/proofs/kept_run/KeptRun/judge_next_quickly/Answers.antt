use Rattle.std.proofs.Common.{◌≡◌, List, length, sym, ap, subst, ◌∙◌, Option}
use Rattle.pg_event.specs.declared.event.Event.{Event}
use Rattle.pg_event.specs.Spelling.{Recorded}
use Rattle.pg_event.specs.Witness.{failing_event}
use Rattle.pg_chain.specs.Standing.{IsPast}
use Rattle.pg_event.specs.declared.event.Reason.{Reason}
use Rattle.pg_check.specs.Judgements.{IsRight}
use Rattle.pg_search.specs.Briefs.{events_from}
use Rattle.pg_search.proofs.Briefs.{events_count}
use Rattle.pg_search.proofs.kept_run.KeptRun.judge_next_quickly.Goals as goal

pub judge_next_quickly-requires-clause-next : goal.judge_next_quickly-requires-clause-next
judge_next_quickly-requires-clause-next c =
    let s = c.self.inside in
    let at = sym (events_count s.past.versions s.pairs.items s.briefs.items 0 s.count) in
    record { head = s.header; events = events_from s.past.versions s.pairs.items s.briefs.items 0 s.count; stands = c.self.invariant.0.seen.stands; count = at }

pub returns : goal.returns
returns c =
    let s = c.self.inside in
    let e = c.args.event.now in
    let before : List Event = events_from s.past.versions s.pairs.items s.briefs.items 0 s.count in
    let stands : IsPast s.past s.header before = c.self.invariant.0.seen.stands in
    let at : s.count ≡ length before = sym (events_count s.past.versions s.pairs.items s.briefs.items 0 s.count) in
    subst (λ (o : Option Reason). IsRight c.judge_next_quickly.result o)
    (ap (λ n. failing_event s.header before n e) at
    ∙ ap (λ (r : Recorded). failing_event r.head r.events (length r.events) e) c.self.view_is)
    (c.judge_next_quickly.ensures s.header before stands)
