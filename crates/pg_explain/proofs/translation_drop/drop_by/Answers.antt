use Rattle.std.proofs.Common.{◌≡◌, Bool, true, List, None, ap, sym, ◌∙◌, subst, arith}
use Rattle.pg_entry.specs.declared.Cfg.{Cfg}
use Rattle.pg_entry.specs.declared.Kind.TheVariants as kinds
use Rattle.pg_entry.specs.Kinds.{kind_of}
use Rattle.pg_event.specs.declared.event.Event.{Event}
use Rattle.pg_event.specs.Heads.{Head}
use Rattle.pg_event.specs.Invalidation.{translation_key, must_drop_translation}
use Rattle.pg_event.specs.Walk.{Reading}
use Rattle.pg_chain.specs.Walked.{reading_of}
use Rattle.pg_search.proofs.Survival.{survives_within}
use Rattle.pg_explain.specs.TranslationDrops.{translation_stands, IsDropBy}
use Rattle.pg_explain.proofs.translation_drop.drop_by.Goals as goal

pub returns-else-end-number : goal.returns-else-end-number
returns-else-end-number c =
    let head : Head = c.args.seen.now.head in
    let events : List Event = c.args.seen.now.events in
    let r : Reading = reading_of c.args.step in
    let cfg : c.behind-seen.inside.cfg ≡ head.cfg = ap (λ (h : Head). h.cfg) c.behind-seen.view_is ∙ ap (λ (h : Head). h.cfg) c.header.ensures.header in
    let leaf : kind_of head.cfg c.args.step.level c.args.step.value ≡ kinds.Leaf c.in-Leaf.frame c.in-Leaf.shift c.in-Leaf.global_bit =
    ap (λ (g : Cfg). kind_of g c.args.step.level c.args.step.value) (sym cfg) ∙ sym c.kind_at-kind.ensures.kind ∙ c.in-Leaf.is in
    let stands : translation_stands head events c.args.p c.args.la c.args.pcid c.in-Leaf.shift c.is_global-global.result r.moment c.args.number ≡ true =
    survives_within head events c.args.p (λ d e. must_drop_translation head.cfg.rules d e (translation_key c.args.pcid c.in-Leaf.shift c.is_global-global.result c.args.la)) r.moment c.args.number c.translation_end-end.result (omega (arith, c.if-end-number.false)) c.translation_end-end.ensures.lasts in
    let told = subst (λ (g : Bool). translation_stands head events c.args.p c.args.la c.args.pcid c.in-Leaf.shift g r.moment c.args.number ≡ true) c.is_global-global.ensures stands in
    subst (λ k. IsDropBy head events c.args.number c.args.p c.args.la c.args.pcid r k None) (sym leaf) told
