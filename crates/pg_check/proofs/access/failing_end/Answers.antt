use Rattle.std.proofs.Common.{◌≡◌, sym, ap, subst, ◌∙◌}
use Rattle.pg_entry.specs.declared.Cfg.{Cfg}
use Rattle.pg_entry.specs.declared.Cause.TheVariants as causes
use Rattle.pg_entry.specs.declared.Kind.{Kind}
use Rattle.pg_entry.specs.Kinds.{kind_of}
use Rattle.pg_event.specs.Walk.{Reading}
use Rattle.pg_event.specs.Witness.{failing_end, failing_fault}
use Rattle.pg_chain.specs.Walked.{reading_of}
use Rattle.pg_check.specs.Lasting.{LastsTo}
use Rattle.pg_check.proofs.access.failing_end.Goals as goal

pub returns-in-Leaf : goal.returns-in-Leaf
returns-in-Leaf c = λ head events h lasts.
    let walk = c.args.walk in
    let claim = c.args.claim.now in
    let r : Reading = reading_of walk.chain.end in
    let kind : kind_of head.cfg r.level r.value ≡ c.kind_at.result =
    sym (c.kind_at.ensures.kind ∙ ap (λ (x : Cfg). kind_of x r.level r.value) (c.cfg-cfg.ensures.run head events h)) in
    c.failing_translation.ensures head events c.in-Leaf.global_bit h
    (subst (λ (k : Kind). LastsTo head events claim.p claim.la walk k) (kind ∙ c.in-Leaf.is) lasts)
    ∙ ap (λ (k : Kind). failing_end head events claim walk.chain.pcid r k) (sym c.in-Leaf.is ∙ sym kind)

pub returns-in-Absent : goal.returns-in-Absent
returns-in-Absent c = λ head events h lasts.
    let walk = c.args.walk in
    let claim = c.args.claim.now in
    let r : Reading = reading_of walk.chain.end in
    c.failing_fault.ensures
    ∙ ap (λ (x : Cfg). failing_fault x claim causes.Absent r.moment claim.outcome) (c.cfg-cfg.ensures.run head events h)
    ∙ ap (λ (k : Kind). failing_end head events claim walk.chain.pcid r k)
    (sym c.in-Absent.is ∙ c.kind_at.ensures.kind ∙ ap (λ (x : Cfg). kind_of x r.level r.value) (c.cfg-cfg.ensures.run head events h))

pub returns-in-Reserved : goal.returns-in-Reserved
returns-in-Reserved c = λ head events h lasts.
    let walk = c.args.walk in
    let claim = c.args.claim.now in
    let r : Reading = reading_of walk.chain.end in
    c.failing_fault-in-Reserved.ensures
    ∙ ap (λ (x : Cfg). failing_fault x claim causes.Reserved r.moment claim.outcome) (c.cfg-cfg.ensures.run head events h)
    ∙ ap (λ (k : Kind). failing_end head events claim walk.chain.pcid r k)
    (sym c.in-Reserved.is ∙ c.kind_at.ensures.kind ∙ ap (λ (x : Cfg). kind_of x r.level r.value) (c.cfg-cfg.ensures.run head events h))

pub returns-in-Table : goal.returns-in-Table
returns-in-Table c = λ head events h lasts.
    let walk = c.args.walk in
    let claim = c.args.claim.now in
    let r : Reading = reading_of walk.chain.end in
    ap (λ (k : Kind). failing_end head events claim walk.chain.pcid r k)
    (sym c.in-Table.is ∙ c.kind_at.ensures.kind ∙ ap (λ (x : Cfg). kind_of x r.level r.value) (c.cfg-cfg.ensures.run head events h))
