use Rattle.std.proofs.Common.{refl, sym, subst, ◌∙◌}
use Rattle.pg_chain.specs.declared.past.Past.{Past}
use Rattle.pg_chain.specs.Standing.{IsPast}
use Rattle.pg_check.proofs.Memos.{made_slot}
use Rattle.pg_check.proofs.memo.Memo.keep.Goals as goal

pub invariant_of-self : goal.invariant_of-self
invariant_of-self c =
    let memo = c.self.inside in
    let leaf = c.in-Leaf in
    let slot = c.slot_of-slot in
    c.put.ensures.walks memo.reader memo.limit
    (made_slot memo.reader memo.limit slot.result c.args.p c.args.page c.args.moments.now c.args.walk c.cfg.result leaf.frame leaf.shift leaf.global_bit
    slot.ensures.names slot.ensures.leaf slot.ensures.chain slot.ensures.lasting (c.if-is_within.ensures refl)
    (λ head events h. c.requires head events (subst (λ (x : Past). IsPast x head events) c.self.view_is h))
    c.cfg.ensures.within c.cfg.ensures.run (sym c.kind_at.ensures.kind ∙ leaf.is))
    c.self.invariant
