use Rattle.std.proofs.Common.{ℕ, ◌%◌, Vec, Global, List, Option, take, get_or, ap, ◌∙◌, sym, subst, arith}
use Rattle.std.specs.List.{All}
use Rattle.std.proofs.lemmas.List.{take_more, take_all}
use Rattle.std.proofs.lemmas.List.Elements.{All-push, All-weaker, All-contains}
use Rattle.pg_event.specs.declared.control.Control.{Control}
use Rattle.pg_timeline.specs.declared.timeline.Span.{Span}
use Rattle.pg_event.specs.declared.event.Event.{Event}
use Rattle.pg_event.specs.declared.event.Outcome.{Outcome}
use Rattle.pg_event.specs.Spelling.{Recorded}
use Rattle.pg_reach.specs.declared.walker.Walker.{Walker}
use Rattle.pg_reach.specs.declared.since.Bounds.{Bounds}
use Rattle.pg_reach.specs.Views.{Viewed}
use Rattle.pg_reach.specs.Stays.{IsSteady, ArePcids}
use Rattle.pg_reach.specs.Asking.{under, AreUnder, AreGlobal}
use Rattle.pg_reach.specs.Parts.{ArePart, AreParts}
use Rattle.pg_reach.specs.Placed.{with_outcome}
use Rattle.pg_reach.specs.ByOutcome.{Findings, found_at, IsGrown}
use Rattle.pg_reach.proofs.Spans.{part_under}
use Rattle.pg_reach.proofs.Cases.{global_since}
use Rattle.pg_reach.proofs.EveryOutcome.{grown_on}
use Rattle.pg_reach.proofs.every_outcome.every_global.Goals as goal

pub new-requires : goal.new-requires
new-requires c =
    let pcid : ℕ = get_or c.deref-pcid-items.result.now c.loop-pcid.pcid-index 0 in
    let of : AreParts c.in_ok-spans.spans.items c.in_ok-parts.parts.items = subst (λ (ss : List (Span Control)). AreParts ss c.in_ok-parts.parts.items) c.deref.ensures.value c.in_ok-parts.ensures in
    let parts : AreParts c.in_ok-spans.spans.items c.deref-in-loop-pcid.result.now = subst (λ (ps : List (Vec (Span Control) Global)). AreParts c.in_ok-spans.spans.items ps) (sym c.deref-in-loop-pcid.ensures.value) of in
    let part : ArePart (pcid % 64) c.in_ok-spans.spans.items c.part_of-part.result.now = subst (ArePart (pcid % 64) c.in_ok-spans.spans.items) (sym c.part_of-part.ensures) (parts (pcid % 64)) in
    part_under c.args.seen.now (under c.args.walker pcid) 0 c.bounds_from-bounds.result.four c.in_ok-spans.spans.items c.part_of-part.result.now (omega arith) c.in_ok-spans.ensures part

pub loop-pcid-preserved : goal.loop-pcid-preserved
loop-pcid-preserved c =
    let r : Recorded = c.args.seen.now in
    let e : Event = c.args.event.now in
    let xs : List ℕ = c.deref-pcid-items.result.now in
    let i : ℕ = c.loop-pcid.pcid-index in
    let pcid : ℕ = get_or xs i 0 in
    let v : Walker = under c.args.walker pcid in
    let olds : Findings = (found_at c.loop-pcid.found) in
    let news : Findings = (found_at c.every_under.new.found) in
    let bounds : Bounds = c.bounds_from-bounds.result in
    let grown : IsGrown r v.number v.freshest e olds news = subst (λ (w : Viewed). IsGrown w.run w.walker.number w.walker.freshest w.event olds news) c.in_ok-view.ensures c.in_ok-every_under.ensures.grown in
    let mine : (o : Outcome) → AreUnder r v bounds.one (with_outcome o e) (news o) = subst (λ (w : Viewed). (o : Outcome) → AreUnder w.run w.walker bounds.one (with_outcome o w.event) (news o)) c.in_ok-view.ensures c.in_ok-every_under.ensures.all in
    let since : (o : Outcome) → AreUnder r v c.page_since.result (with_outcome o e) (news o) = λ o. subst (λ since. AreUnder r v since (with_outcome o e) (news o)) c.bounds_from-bounds.ensures.one (mine o) in
    let all : Outcome → Option (List ℕ) → ℕ → Type 0 = λ o found pcid. AreGlobal r (under c.args.walker pcid) (with_outcome o e) found in
    record {
      memo = c.every_under.ensures.memo ∙ c.loop-pcid.invariant.memo;
      grown = grown_on r v.number v.freshest e (found_at c.args.found.now) olds news c.loop-pcid.invariant.grown grown;
      all = λ o. subst (All (all o (news o))) (sym (take_more xs i 0 c.loop-pcid-test.true)) (All-push (all o (news o)) (take i xs) pcid
          (All-weaker (all o (olds o)) (all o (news o)) (λ q old. λ ws witness alike lasts. grown.fresher o ws (old ws witness alike lasts)) (take i xs) (c.loop-pcid.invariant.all o))
          (global_since r v c.page_since.result (with_outcome o e) (news o) (since o) c.page_since.ensures.since));
    }

pub returns-clause-all : goal.returns-clause-all
returns-clause-all c = λ o w low.
    let all : ℕ → Type 0 = λ pcid. AreGlobal c.args.seen.now (under c.args.walker pcid) (with_outcome o c.args.event.now) ((found_at c.loop-pcid.found) o) in
    let each : All all c.deref-pcid-items.result.now = subst (All all) (take_all c.loop-pcid.pcid-index c.deref-pcid-items.result.now c.loop-pcid-test.false) (c.loop-pcid.invariant.all o) in
    let s = c.in_ok-spans.ensures.all w (omega arith) low in
    let steady : IsSteady c.args.seen.now c.args.walker.p s.0 = All-contains (IsSteady c.args.seen.now c.args.walker.p) c.in_ok-spans.spans.items s.0 c.in_ok-spans.ensures.each s.1 in
    let spans : ArePcids c.in_ok-spans.spans.items c.deref-pcid-items.result.now = subst (ArePcids c.in_ok-spans.spans.items) (sym c.deref-pcid-items.ensures.value)
    (subst (λ (ss : List (Span Control)). ArePcids ss c.in_ok-pcids_of.field-0.items) c.deref-2.ensures.value c.in_ok-pcids_of.ensures) in
    subst all (ap (λ (d : Control). d.pcid) (sym (steady.same w s.2 s.3))) (All-contains all c.deref-pcid-items.result.now s.0.value.pcid each (spans s.0 s.1))
