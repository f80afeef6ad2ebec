use Rattle.std.proofs.Common.{List, ◌∙◌, refl, sym, subst}
use Rattle.std.specs.Prelude.{IfOk}
use Rattle.std.proofs.lemmas.Result.{IfOk-weaker}
use Rattle.pg_event.specs.declared.event.Event.{Event}
use Rattle.pg_event.specs.Spelling.{Recorded}
use Rattle.pg_reach.specs.declared.walker.Walker.{Walker}
use Rattle.pg_reach.specs.declared.since.Bounds.{Bounds}
use Rattle.pg_reach.specs.Views.{Viewed}
use Rattle.pg_reach.specs.Asking.{AreUnder, AreLate}
use Rattle.pg_event.specs.declared.control.Control.{Control}
use Rattle.pg_timeline.specs.declared.timeline.Span.{Span}
use Rattle.pg_reach.specs.Stays.{AreSpans}
use Rattle.pg_reach.proofs.Spans.{spans_under}
use Rattle.pg_reach.proofs.Cases.{late_page, late_now}
use Rattle.pg_reach.proofs.finder.search_own.Goals as goal
use Rattle.pg_reach.proofs.finder.search_own.Goals.{then-wants_page, else-wants_page}

pub new-requires : goal.new-requires
new-requires c =
    spans_under c.args.seen.now c.args.walker c.args.walker.p c.bounds_from-bounds.result.four c.args.walker.number c.deref.result.now refl refl
    (subst (λ (ss : List (Span Control)). AreSpans c.args.seen.now c.args.walker.p c.bounds_from-bounds.result.four c.args.walker.number ss) (sym c.deref.ensures.value) c.in_ok-spans.ensures)

pub returns-clause-all : goal.returns-clause-all
returns-clause-all c =
    let r : Recorded = c.args.seen.now in
    let v : Walker = c.args.walker in
    let e : Event = c.args.event.now in
    let bounds : Bounds = c.bounds_from-bounds.result in
    let mine : IfOk c.search_under.result (AreUnder r v bounds.one e) = subst (λ (w : Viewed). IfOk c.search_under.result (AreUnder w.run w.walker bounds.one w.event)) c.in_ok-view.ensures c.search_under.ensures.all in
    let under : IfOk c.search_under.result (AreUnder r v c.if-wants_page.since e) = subst (λ since. IfOk c.search_under.result (AreUnder r v since e)) c.bounds_from-bounds.ensures.one mine in
    elim c.if-wants_page.branch as (λ _. IfOk c.search_under.result (AreLate r v e)) [
      | then-wants_page b ↦ IfOk-weaker c.search_under.result _ _ (λ found h. late_page r v b.page_since-since.result e found b.page_since-since.ensures.within b.page_since-since.ensures.since h)
          (subst (λ since. IfOk c.search_under.result (AreUnder r v since e)) b.since-is under)
      | else-wants_page b ↦ IfOk-weaker c.search_under.result _ _ (λ found h. late_now r v e found (sym c.wants_page.ensures ∙ b.if-wants_page.false) h)
          (subst (λ since. IfOk c.search_under.result (AreUnder r v since e)) b.since-is under)
    ]
