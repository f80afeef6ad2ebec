use Rattle.std.proofs.Common.{ℕ, [], ◌<◌, length, sym, subst, ◌∙◌, arith, inl, inr, Vec, Global}
use Rattle.pg_machine.specs.Machine.{IsIn}
use Rattle.pg_span_run.specs.Orders.{Spanned}
use Rattle.pg_span_refute.specs.declared.edge.Edge.{Edge}
use Rattle.pg_span_refute.specs.declared.words.Words.{Words}
use Rattle.pg_span_refute.specs.Memory.{IsOwn}
use Rattle.pg_span_refute.specs.Supposed.{AreSure, AreDeduced, NeverComesSo, FollowInTurn}
use Rattle.pg_span_refute.specs.Witness.{HasNoWitness}
use Rattle.pg_span_refute.specs.Words.{AreWordsOf}
use Rattle.pg_span_refute.proofs.Deducing.{never_so}
use Rattle.pg_span_refute.proofs.Entering.{own_precedes}
use Rattle.pg_span_refute.proofs.Witness.{none_follow}
use Rattle.pg_span_refute.proofs.deduced.refute_own.Goals as goal
use Rattle.pg_span_refute.proofs.deduced.refute_own.Goals.{then-is_own_walk+in_ok-refute_so+else-branch+in_ok-deduce_around, else-is_own_walk}

pub loop-number-init : goal.loop-number-init
loop-number-init c =
    let s : Spanned = c.args.run.now in
    record {
      words = c.requires.words;
      sure = λ i later within own order place is at run edge h. absurd (subst (IsIn edge) c.new-edges.ensures.items h);
      deduced = λ edge h. absurd (subst (IsIn edge) c.new-edges.ensures.items h);
      follow = subst (FollowInTurn s []) (sym c.new-edges.ensures.items) (none_follow s []);
      earlier = λ edge h. absurd (subst (IsIn edge) c.new-edges.ensures.items h);
    }

pub returns-then-branch-clause-refuted : goal.returns-then-branch-clause-refuted
returns-then-branch-clause-refuted c =
    let s : Spanned = c.args.run.now in
    let n : ℕ = c.loop-number.number in
    let within : n < length s.events = omega (arith, c.loop-number-test.true, c.requires.within) in
    let sure : AreSure s c.loop-number.edges.items n = c.loop-number.invariant.sure n (omega arith) within (c.is_own_walk.ensures.own c.if-is_own_walk.true) in
    let never : NeverComesSo s c.loop-number.edges.items n = subst (λ es. NeverComesSo s es n) c.deref.ensures.value (c.in_ok-refute_so.ensures.never c.if-branch.true) in
    let own : IsOwn s.events c.args.p n = c.is_own_walk.ensures.own c.if-is_own_walk.true in
    record {
      within = within;
      never = never_so s c.loop-number.edges.items n sure never;
      none = subst (λ es. HasNoWitness s es n) c.deref.ensures.value (c.in_ok-refute_so.ensures.none c.if-branch.true);
      follow = c.loop-number.invariant.follow;
      deduced = c.loop-number.invariant.deduced;
      earlier = λ edge h. let is = c.loop-number.invariant.earlier edge h in (is.0, is.1 ∙ sym own);
    }

pub loop-number-preserved : goal.loop-number-preserved
loop-number-preserved c =
    let s : Spanned = c.args.run.now in
    let n : ℕ = c.loop-number.number in
    elim c.if-is_own_walk.branch [
      | then-is_own_walk+in_ok-refute_so+else-branch+in_ok-deduce_around w ↦ record {
        words = subst (λ (v : Words). AreWordsOf s.events v.words.items) (sym w.words-is) w.in_ok-deduce_around.ensures.words;
        sure = λ i later within own. subst (λ (v : Vec Edge Global). AreSure s v.items i) (sym w.edges-is)
            (w.in_ok-deduce_around.ensures.sure i (inr (own_precedes s c.args.p n i (omega (arith, later)) within (c.is_own_walk.ensures.own w.if-is_own_walk.true) own))
            (c.loop-number.invariant.sure i (omega (arith, later)) within own));
        deduced =
            let own : IsOwn s.events c.args.p n = c.is_own_walk.ensures.own w.if-is_own_walk.true in
            let within : n < length s.events = omega (arith, c.loop-number-test.true, c.requires.within) in
            subst (λ (v : Vec Edge Global). AreDeduced s v.items) (sym w.edges-is)
            (w.in_ok-deduce_around.ensures.deduced (c.loop-number.invariant.sure n (omega arith) within own) c.loop-number.invariant.deduced);
        follow = subst (λ (v : Vec Edge Global). FollowInTurn s [] v.items) (sym w.edges-is) (w.in_ok-deduce_around.ensures.follow c.loop-number.invariant.follow);
        earlier = λ edge h. elim (w.in_ok-deduce_around.ensures.more edge (subst (λ (v : Vec Edge Global). IsIn edge v.items) w.edges-is h)) [
          | inl old ↦ let is = c.loop-number.invariant.earlier edge old in (omega (arith, is.0), is.1)
          | inr same ↦ (omega (arith, same), subst (IsOwn s.events c.args.p) (sym same) (c.is_own_walk.ensures.own w.if-is_own_walk.true))
        ];
      }
      | else-is_own_walk w ↦ record {
        words = subst (λ (v : Words). AreWordsOf s.events v.words.items) (sym w.words-is) c.loop-number.invariant.words;
        sure = λ i later within own. subst (λ (v : Vec Edge Global). AreSure s v.items i) (sym w.edges-is) (c.loop-number.invariant.sure i (omega (arith, later)) within own);
        deduced = subst (λ (v : Vec Edge Global). AreDeduced s v.items) (sym w.edges-is) c.loop-number.invariant.deduced;
        follow = subst (λ (v : Vec Edge Global). FollowInTurn s [] v.items) (sym w.edges-is) c.loop-number.invariant.follow;
        earlier = λ edge h. let is = c.loop-number.invariant.earlier edge (subst (λ (v : Vec Edge Global). IsIn edge v.items) w.edges-is h) in (omega (arith, is.0), is.1);
      }
    ]
