use Rattle.std.proofs.Common.{◌≡◌, sym, ap, subst, ◌∙◌}
use Rattle.pg_entry.specs.declared.Kind.TheVariants.{Leaf}
use Rattle.pg_entry.specs.Kinds.{kind_of}
use Rattle.pg_event.specs.declared.event.Want.{Want}
use Rattle.pg_event.specs.declared.control.Control.{Control}
use Rattle.pg_event.specs.Witness.{is_in_order}
use Rattle.pg_chain.specs.Walked.{chain_of}
use Rattle.pg_check.specs.declared.lasting.Lasting.{Lasting}
use Rattle.pg_check.specs.Lasting.{IsLasting}
use Rattle.pg_check.specs.Ends.{failing_chain}
use Rattle.pg_check.proofs.Reasons.{failing_access-ordered}
use Rattle.pg_check.proofs.tip.judge_by_kept_walk.Goals as goal

pub failing_leaf_chain-requires-clause-current : goal.failing_leaf_chain-requires-clause-current
failing_leaf_chain-requires-clause-current c = λ head events h.
    ap (λ (x : Control). x.pcid) (sym (c.latest_control-current.ensures.run c.args.claim.now.number c.requires.next head events h))

pub returns-in-Some : goal.returns-in-Some
returns-in-Some c = λ head events h.
    let claim = c.args.claim.now in
    let ws = c.args.moments.now in
    let found = c.in-Some.ensures.walk head events h in
    let leaf = c.in-Some.ensures.leaf head events h in
    let same = c.lasting_to-walk.ensures in
    c.failing_leaf_chain.ensures head events leaf.global_bit h
    (subst (λ (l : Lasting). kind_of head.cfg l.chain.end.level l.chain.end.value ≡ Leaf c.frame_in-frame.result c.in-Some.slot.shift leaf.global_bit) (sym same)
    (leaf.kind ∙ ap (λ n. Leaf n c.in-Some.slot.shift leaf.global_bit) (sym c.frame_in-frame.ensures.frame)))
    (subst (λ (l : Lasting). IsLasting head events claim.p claim.la l) (sym same) found.1)
    ∙ ap (λ (l : Lasting). failing_chain head events claim l.chain) same
    ∙ failing_access-ordered head events claim ws c.standing_slot.ensures.some (ap (λ vs. is_in_order vs claim.number) (sym c.in-Some.ensures.within.1) ∙ c.in-Some.ensures.within.0.ordered)
    _ (ap (λ (w : Want). chain_of head events claim.p claim.la ws w) c.requires.leaf ∙ found.0)
