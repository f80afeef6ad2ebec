use Rattle.std.proofs.Common.{List, refl, sym, subst}
use Rattle.std.specs.Prelude.{OnOk}
use Rattle.std.proofs.lemmas.Result.{on_ok_weaker}
use Rattle.pg_event.specs.declared.event.Outcome.{Outcome}
use Rattle.pg_event.specs.Spelling.{Recorded}
use Rattle.pg_reach.specs.declared.walker.Walker.{Walker}
use Rattle.pg_reach.specs.declared.since.Bounds.{Bounds}
use Rattle.pg_reach.specs.Views.{Viewed}
use Rattle.pg_reach.specs.Asking.{AreUnder}
use Rattle.pg_event.specs.declared.control.Control.{Control}
use Rattle.pg_timeline.specs.declared.timeline.Span.{Span}
use Rattle.pg_reach.specs.Stays.{AreSpans}
use Rattle.pg_reach.specs.Placed.{with_outcome}
use Rattle.pg_reach.specs.ByOutcome.{Findings, found_at, IsGrown}
use Rattle.pg_reach.proofs.Spans.{spans_under}
use Rattle.pg_reach.proofs.Cases.{late_page}
use Rattle.pg_reach.proofs.every_outcome.every_own.Goals as goal

pub new-requires : goal.new-requires
new-requires c =
    spans_under c.args.seen.now c.args.walker c.args.walker.p c.bounds_from-bounds.result.four c.args.walker.number c.deref.result.now refl refl
    (subst (λ (ss : List (Span Control)). AreSpans c.args.seen.now c.args.walker.p c.bounds_from-bounds.result.four c.args.walker.number ss) (sym c.deref.ensures.value) c.in_ok-spans.ensures)

pub returns-clause-grown : goal.returns-clause-grown
returns-clause-grown c = subst (λ (w : Viewed). OnOk c.every_under.result (IsGrown w.run w.walker.number w.walker.freshest w.event (found_at c.args.found.now) (found_at c.every_under.new.found))) c.in_ok-view.ensures c.every_under.ensures.grown

pub returns-clause-all : goal.returns-clause-all
returns-clause-all c =
    let r : Recorded = c.args.seen.now in
    let v : Walker = c.args.walker in
    let bounds : Bounds = c.bounds_from-bounds.result in
    let news : Findings = (found_at c.every_under.new.found) in
    let mine : OnOk c.every_under.result ((o : Outcome) → AreUnder r v bounds.one (with_outcome o c.args.event.now) (news o)) =
    subst (λ (w : Viewed). OnOk c.every_under.result ((o : Outcome) → AreUnder w.run w.walker bounds.one (with_outcome o w.event) (news o))) c.in_ok-view.ensures c.every_under.ensures.all in
    on_ok_weaker c.every_under.result (λ all o. late_page r v c.page_since.result (with_outcome o c.args.event.now) (news o) c.page_since.ensures.within c.page_since.ensures.since
    (subst (λ since. AreUnder r v since (with_outcome o c.args.event.now) (news o)) c.bounds_from-bounds.ensures.one (all o))) mine
