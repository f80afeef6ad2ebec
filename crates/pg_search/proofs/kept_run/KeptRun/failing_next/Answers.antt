use Rattle.std.proofs.Common.{◌≡◌, List, length, sym, ap, subst, ◌∙◌}
use Rattle.pg_event.specs.declared.event.Event.{Event}
use Rattle.pg_event.specs.Spelling.{Recorded}
use Rattle.pg_event.specs.Witness.{failing_event}
use Rattle.pg_chain.specs.declared.past.Past.{Past}
use Rattle.pg_chain.specs.Standing.{IsPast}
use Rattle.pg_check.specs.Remembered.{HaveWalks}
use Rattle.pg_check.specs.Stems.{HaveStems}
use Rattle.pg_search.specs.Briefs.{events_from, IsKept}
use Rattle.pg_search.proofs.Briefs.{events_count}
use Rattle.pg_search.proofs.kept_run.KeptRun.failing_next.Goals as goal

pub failing_next-requires-clause-next : goal.failing_next-requires-clause-next
failing_next-requires-clause-next c =
    let s = c.self.inside in
    let at = sym (events_count s.past.versions s.pairs.items s.briefs.items 0 s.count) in
    record { head = s.header; events = events_from s.past.versions s.pairs.items s.briefs.items 0 s.count; stands = c.self.invariant.0.seen.stands; count = at }

pub invariant_of-self : goal.invariant_of-self
invariant_of-self c =
    let s = c.self.inside in
    let same = sym c.failing_next.ensures.past in (
      subst (λ (x : Past). IsKept s.header x s.pairs.items s.briefs.items s.count) same c.self.invariant.0,
      subst (λ (x : Past). HaveWalks x s.count c.failing_next.new.kept.slots.items) same c.failing_next.ensures.walks,
      subst (λ (x : Past). HaveStems x s.count c.failing_next.new.kept.stems.items) same c.failing_next.ensures.stems,
    )

pub returns-clause-failing : goal.returns-clause-failing
returns-clause-failing c =
    let s = c.self.inside in
    let e = c.args.event.now in
    let before : List Event = events_from s.past.versions s.pairs.items s.briefs.items 0 s.count in
    let stands : IsPast s.past s.header before = c.self.invariant.0.seen.stands in
    let at : s.count ≡ length before = sym (events_count s.past.versions s.pairs.items s.briefs.items 0 s.count) in
    c.failing_next.ensures.failing s.header before stands
    ∙ ap (λ n. failing_event s.header before n e) at
    ∙ ap (λ (r : Recorded). failing_event r.head r.events (length r.events) e) c.self.view_is
