use Rattle.std.proofs.Common.{◌≡◌, ◌≤◌, List, length, sym, ap, subst, arith, None}
use Rattle.std.specs.List.{All, AllAdjacentBelow}
use Rattle.std.specs.List.Sorted.{IsPermutation}
use Rattle.std.proofs.lemmas.List.Sorted.{All-permutation, length_permutation}
use Rattle.std.specs.List.{AllByRecursion}
use Rattle.std.proofs.lemmas.List.Elements.{recursion_from_All}
use Rattle.pg_event.specs.Form.{broken_rule}
use Rattle.pg_event.specs.Spelling.{FitsEvent}
use Rattle.pg_codec.specs.Bare.{IsBare}
use Rattle.pg_span_run.proofs.Lists.{each_weaker}
use Rattle.pg_span_run.specs.declared.log.Stamped.{Stamped}
use Rattle.pg_span_run.specs.Runs.{AreOfOneRun, events_of}
use Rattle.pg_span_run.specs.Merged.{EndsFirst}
use Rattle.pg_span_run.specs.Parts.{KeepsTies}
use Rattle.pg_span_run.proofs.Whole.{all_well, all_spans, HasSpelling, all_spelled, each_plain, own_kept}
use Rattle.pg_span_run.proofs.merger.merge_logs.Goals as goal

pub spanned-requires-clause-count : goal.spanned-requires-clause-count
spanned-requires-clause-count c = omega (arith, ap length c.deref.ensures.value, length_permutation c.in-Ok-gathered.all.items c.order.new.all.items c.in_ok-order.ensures.same, c.in-Ok-gathered.ensures.count)

pub spanned-requires-clause-well : goal.spanned-requires-clause-well
spanned-requires-clause-well c =
    let P : Stamped → Type 0 = λ x. broken_rule c.in-Ok.header x.event ≡ None in
    let all : All P (events_of c.args.logs.now) = all_well c.in-Ok.header c.args.logs.now c.in-Ok.ensures.logs c.in-Ok.ensures.run.parts in
    let here : All P c.in-Ok-gathered.all.items = subst (All P) (sym c.in-Ok-gathered.ensures.events) all in
    subst (All P) (sym c.deref.ensures.value) (All-permutation P c.in-Ok-gathered.all.items c.order.new.all.items c.in_ok-order.ensures.same here)

pub spanned-requires-clause-spans : goal.spanned-requires-clause-spans
spanned-requires-clause-spans c =
    let P : Stamped → Type 0 = λ x. x.begin ≤ x.end in
    let all : All P (events_of c.args.logs.now) = all_spans c.args.logs.now c.in-Ok.ensures.logs in
    let here : All P c.in-Ok-gathered.all.items = subst (All P) (sym c.in-Ok-gathered.ensures.events) all in
    subst (All P) (sym c.deref.ensures.value) (All-permutation P c.in-Ok-gathered.all.items c.order.new.all.items c.in_ok-order.ensures.same here)

pub returns-clause-run : goal.returns-clause-run
returns-clause-run c =
    let all : List Stamped = c.deref.result.now in
    let same : IsPermutation (events_of c.args.logs.now) all = subst (λ (xs : List Stamped). IsPermutation xs all) c.in-Ok-gathered.ensures.events (subst (IsPermutation c.in-Ok-gathered.all.items) (sym c.deref.ensures.value) c.in_ok-order.ensures.same) in
    let rises : AllAdjacentBelow EndsFirst all (length all) = subst (λ (xs : List Stamped). AllAdjacentBelow EndsFirst xs (length xs)) (sym c.deref.ensures.value) c.in_ok-order.ensures.rises in
    let ties : KeepsTies (events_of c.args.logs.now) all = subst (λ (xs : List Stamped). KeepsTies xs all) c.in-Ok-gathered.ensures.events (subst (KeepsTies c.in-Ok-gathered.all.items) (sym c.deref.ensures.value) c.in_ok-order.ensures.ties) in (
      subst (AreOfOneRun c.args.logs.now) (sym c.in-Ok-spanned.ensures.head) c.in-Ok.ensures.run,
      record {
        all = all;
        same = same;
        own = own_kept c.args.logs.now all c.in-Ok.ensures.logs c.in-Ok.ensures.run.apart ties rises;
        rises = rises;
        spelled = c.in-Ok-spanned.ensures.run;
      },
    )

pub returns-clause-spelled : goal.returns-clause-spelled
returns-clause-spelled c =
    let all : List Stamped = c.deref.result.now in
    let here : All HasSpelling c.in-Ok-gathered.all.items = subst (All HasSpelling) (sym c.in-Ok-gathered.ensures.events) (all_spelled c.args.logs.now c.in-Ok.ensures.logs) in
    let are : All HasSpelling all = subst (All HasSpelling) (sym c.deref.ensures.value) (All-permutation HasSpelling c.in-Ok-gathered.all.items c.order.new.all.items c.in_ok-order.ensures.same here) in
    let each : AllByRecursion HasSpelling all = recursion_from_All HasSpelling all are in
    let events = sym c.in-Ok-spanned.ensures.run.events in
    record {
      spanned = c.in-Ok-spanned.ensures.kept;
      fits = subst (AllByRecursion FitsEvent) events (each_plain FitsEvent all (each_weaker HasSpelling (λ x. FitsEvent x.event) (λ x h. h.0) all each));
      bare = subst (AllByRecursion IsBare) events (each_plain IsBare all (each_weaker HasSpelling (λ x. IsBare x.event) (λ x h. h.1) all each));
    }
