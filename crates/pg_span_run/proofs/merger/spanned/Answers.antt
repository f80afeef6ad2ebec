use Rattle.std.proofs.Common.{◌≡◌, ℕ, ◌+◌, ◌-◌, List, ◌∷◌, [], ◌++◌, length, take, map, get_or, arith, ap, sym, ◌∙◌}
use Rattle.std.specs.Prelude.{count_by}
use Rattle.std.proofs.lemmas.List.{length_push, take_more, map-append}
use Rattle.pg_event.specs.declared.event.Event.{Event}
use Rattle.pg_span_run.specs.Orders.{Spanned}
use Rattle.pg_span_run.specs.declared.log.Stamped.{Stamped}
use Rattle.pg_span_run.specs.Merged.{had_ended}
use Rattle.pg_span_run.proofs.EndStamps.{ended_first, spans_more}
use Rattle.pg_span_run.proofs.merger.spanned.Goals as goal

pub overflow_sub-back : goal.overflow_sub-back
overflow_sub-back c = omega (arith, ended_first c.args.error c.args.all.now c.loop-i.i c.index-all-i.result c.requires.rises c.requires.spans c.loop-i-test.true c.index-all-i.is, c.ended_before-ended.ensures)

pub loop-i-preserved : goal.loop-i-preserved
loop-i-preserved c =
    let all : List Stamped = c.args.all.now in
    let i : ℕ = c.loop-i.i in
    let x : Stamped = c.index-all-i.result in
    let event : Stamped → Event = λ y. y.event in
    let was = c.loop-i.invariant in
    let back : ℕ = i - c.ended_before-ended.result in
    let events : c.push.new.self.events ≡ c.loop-i.run.events ++ x.event ∷ [] = ap (λ (r : Spanned). r.events) c.in_ok-push.ensures.ok in
    let backs : c.push.new.self.backs ≡ c.loop-i.run.backs ++ back ∷ [] = ap (λ (r : Spanned). r.backs) c.in_ok-push.ensures.ok in
    let more : map event (take (i + 1) all) ≡ map event (take i all) ++ x.event ∷ [] =
    ap (map event) (take_more all i x c.loop-i-test.true) ∙ (map-append event (take i all) (get_or all i x ∷ []) ∙ ap (λ (y : Stamped). map event (take i all) ++ y.event ∷ []) (sym c.index-all-i.is)) in
    let count : c.ended_before-ended.result ≡ count_by (had_ended c.args.error x) all = c.ended_before-ended.ensures in
    record {
      head = ap (λ (r : Spanned). r.head) c.in_ok-push.ensures.ok ∙ was.head;
      events = events ∙ (ap (λ (es : List Event). es ++ x.event ∷ []) was.events ∙ sym more);
      long = omega (arith, ap length events, length_push c.loop-i.run.events x.event, was.long);
      backs = omega (arith, ap length backs, length_push c.loop-i.run.backs back, was.backs);
      spans = λ k y less there. ap (λ (bs : List ℕ). get_or bs k 0) backs ∙ spans_more c.args.error all c.loop-i.run.backs i c.ended_before-ended.result x c.loop-i-test.true c.index-all-i.is was.backs count was.spans k y less there;
    }
