use Rattle.std.proofs.Common.{ℕ, List, Option, take, get_or, ap, sym, subst, arith, ◌%◌, Vec, Global}
use Rattle.std.specs.Prelude.{IfSome}
use Rattle.std.specs.List.{All}
use Rattle.std.proofs.lemmas.List.{take_more, take_all}
use Rattle.std.proofs.lemmas.List.Elements.{All-push, All-weaker, All-contains}
use Rattle.pg_event.specs.declared.control.Control.{Control}
use Rattle.pg_event.specs.declared.event.Event.{Event}
use Rattle.pg_event.specs.Spelling.{Recorded}
use Rattle.pg_chain.specs.Standing.{IsPast}
use Rattle.pg_timeline.specs.declared.timeline.Span.{Span}
use Rattle.pg_reach.specs.Views.{Viewed}
use Rattle.pg_reach.specs.Stays.{IsSteady, ArePcids}
use Rattle.pg_reach.specs.Asking.{under}
use Rattle.pg_reach.specs.WitnessedUpTo.{HasWitness, IsFoundAfter, AreUpTo}
use Rattle.pg_reach.proofs.Before.{found_any}
use Rattle.pg_reach.proofs.Pieces.{IsLater}
use Rattle.pg_reach.specs.Parts.{ArePart, AreParts}
use Rattle.pg_reach.proofs.Spans.{part_under}
use Rattle.pg_reach.proofs.last.last_number.Goals as goal

pub new-requires : goal.new-requires
new-requires c =
    let pcid : ℕ = get_or c.deref-pcid-items.result.now c.loop-pcid.pcid-index 0 in
    let of : AreParts c.in_ok-spans.spans.items c.in_ok-parts.parts.items = subst (λ (ss : List (Span Control)). AreParts ss c.in_ok-parts.parts.items) c.deref.ensures.value c.in_ok-parts.ensures in
    let parts : AreParts c.in_ok-spans.spans.items c.deref-in-loop-pcid.result.now = subst (λ (ps : List (Vec (Span Control) Global)). AreParts c.in_ok-spans.spans.items ps) (sym c.deref-in-loop-pcid.ensures.value) of in
    let part : ArePart (pcid % 64) c.in_ok-spans.spans.items c.part_of.result.now = subst (ArePart (pcid % 64) c.in_ok-spans.spans.items) (sym c.part_of.ensures) (parts (pcid % 64)) in
    part_under c.args.seen.now (under c.args.walker pcid) 0 0 c.in_ok-spans.spans.items c.part_of.result.now (omega arith) c.in_ok-spans.ensures part

pub loop-pcid-preserved : goal.loop-pcid-preserved
loop-pcid-preserved c =
    let r : Recorded = c.args.seen.now in
    let e : Event = c.args.event.now in
    let xs : List ℕ = c.deref-pcid-items.result.now in
    let i : ℕ = c.loop-pcid.pcid-index in
    let pcid : ℕ = get_or xs i 0 in
    let found : Option ℕ = c.in_ok-later.later in
    let on : IsLater c.loop-pcid.last found = c.in_ok-later.ensures.later in
    let after : IsFoundAfter r (under c.args.walker pcid) e c.loop-pcid.last found = subst (λ (w : Viewed). IsFoundAfter w.run w.walker w.event c.loop-pcid.last found) c.in_ok-view.ensures c.in_ok-later.ensures.some in
    let some : IfSome found (HasWitness r e c.args.walker.number) = found_any r (under c.args.walker pcid) e c.loop-pcid.last found c.loop-pcid.invariant.some after in
    let mine : AreUpTo r (under c.args.walker pcid) e found = subst (λ (w : Viewed). AreUpTo w.run w.walker w.event found) c.in_ok-view.ensures c.in_ok-later.ensures.all in
    let all : Option ℕ → ℕ → Type 0 = λ last pcid. AreUpTo r (under c.args.walker pcid) e last in
    record {
      past = subst (λ m. IsPast m r.head r.events) (sym c.last_under.ensures.memo) c.loop-pcid.invariant.past;
      some = some;
      all = subst (All (all found)) (sym (take_more xs i 0 c.loop-pcid-test.true)) (All-push (all found) (take i xs) pcid
          (All-weaker (all c.loop-pcid.last) (all found) (λ q old. λ j low ws witness alike. on j (old j low ws witness alike)) (take i xs) c.loop-pcid.invariant.all) mine);
    }

pub returns-clause-all : goal.returns-clause-all
returns-clause-all c = λ w low.
    let all : ℕ → Type 0 = λ pcid. AreUpTo c.args.seen.now (under c.args.walker pcid) c.args.event.now c.loop-pcid.last in
    let each : All all c.deref-pcid-items.result.now = subst (All all) (take_all c.loop-pcid.pcid-index c.deref-pcid-items.result.now c.loop-pcid-test.false) c.loop-pcid.invariant.all in
    let s = c.in_ok-spans.ensures.all w (omega arith) low in
    let steady : IsSteady c.args.seen.now c.args.walker.p s.0 = All-contains (IsSteady c.args.seen.now c.args.walker.p) c.in_ok-spans.spans.items s.0 c.in_ok-spans.ensures.each s.1 in
    let spans : ArePcids c.in_ok-spans.spans.items c.deref-pcid-items.result.now = subst (ArePcids c.in_ok-spans.spans.items) (sym c.deref-pcid-items.ensures.value)
    (subst (λ (ss : List (Span Control)). ArePcids ss c.in_ok-pcids_of.field-0.items) c.deref-2.ensures.value c.in_ok-pcids_of.ensures) in
    subst all (ap (λ (d : Control). d.pcid) (sym (steady.same w s.2 s.3))) (All-contains all c.deref-pcid-items.result.now s.0.value.pcid each (spans s.0 s.1))
