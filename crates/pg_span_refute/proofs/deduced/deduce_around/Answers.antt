use Rattle.std.proofs.Common.{[], refl, sym, subst, inl, Vec, Global}
use Rattle.pg_span_refute.specs.declared.edge.Edge.{Edge}
use Rattle.pg_span_refute.specs.declared.words.Words.{Words}
use Rattle.pg_span_refute.specs.Supposed.{AreSure, AreDeduced, AddsEdgesOf, FollowInTurn}
use Rattle.pg_span_refute.specs.Words.{AreWordsOf}
use Rattle.pg_span_refute.proofs.Deducing.{adds_on}
use Rattle.pg_span_refute.proofs.deduced.deduce_around.Goals as goal
use Rattle.pg_span_refute.proofs.deduced.deduce_around.Goals.{then-may_come_on_both_sides+in_ok-deduce, else-may_come_on_both_sides}

pub loop-write-preserved : goal.loop-write-preserved
loop-write-preserved c = elim c.if-may_come_on_both_sides.branch [
  | then-may_come_on_both_sides+in_ok-deduce w ↦ record {
    words = subst (λ (v : Words). AreWordsOf c.args.run.now.events v.words.items) (sym w.words-is) w.in_ok-deduce.ensures.words;
    sure = λ i up sure. subst (λ (v : Vec Edge Global). AreSure c.args.run.now v.items i) (sym w.edges-is) (w.in_ok-deduce.ensures.sure i up (c.loop-write.invariant.sure i up sure));
    deduced = λ sure are. subst (λ (v : Vec Edge Global). AreDeduced c.args.run.now v.items) (sym w.edges-is)
        (w.in_ok-deduce.ensures.deduced (c.loop-write.invariant.sure c.args.asked (inl refl) sure) (c.loop-write.invariant.deduced sure are));
    follow = λ all. subst (λ (v : Vec Edge Global). FollowInTurn c.args.run.now [] v.items) (sym w.edges-is) (w.in_ok-deduce.ensures.follow (c.loop-write.invariant.follow all));
    more = subst (λ (v : Vec Edge Global). AddsEdgesOf c.args.asked c.args.edges.now.items v.items) (sym w.edges-is)
        (adds_on c.args.asked c.args.edges.now.items c.loop-write.edges.items w.deduce.new.edges.items c.loop-write.invariant.more w.in_ok-deduce.ensures.more);
  }
  | else-may_come_on_both_sides w ↦ record {
    words = subst (λ (v : Words). AreWordsOf c.args.run.now.events v.words.items) (sym w.words-is) c.loop-write.invariant.words;
    sure = λ i up sure. subst (λ (v : Vec Edge Global). AreSure c.args.run.now v.items i) (sym w.edges-is) (c.loop-write.invariant.sure i up sure);
    deduced = λ sure are. subst (λ (v : Vec Edge Global). AreDeduced c.args.run.now v.items) (sym w.edges-is) (c.loop-write.invariant.deduced sure are);
    follow = λ all. subst (λ (v : Vec Edge Global). FollowInTurn c.args.run.now [] v.items) (sym w.edges-is) (c.loop-write.invariant.follow all);
    more = subst (λ (v : Vec Edge Global). AddsEdgesOf c.args.asked c.args.edges.now.items v.items) (sym w.edges-is) c.loop-write.invariant.more;
  }
]
