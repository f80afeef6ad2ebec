use Rattle.std.proofs.Common.{◌≡◌, ◌-◌, ◌^◌, sym, ap, subst, ◌∙◌, refl, None}
use Rattle.pg_entry.specs.declared.Cfg.{Cfg}
use Rattle.pg_entry.specs.declared.Kind.{Kind}
use Rattle.pg_entry.specs.Kinds.{kind_of}
use Rattle.pg_event.specs.declared.keys.TranslationKey.{TranslationKey}
use Rattle.pg_event.specs.Invalidation.{translation_key}
use Rattle.pg_check.specs.declared.lasting.Lasting.{Lasting}
use Rattle.pg_check.specs.Lasting.{IsFirstToPass, LastsTo}
use Rattle.pg_check.proofs.Lastings.{nothing_lasts, drops_at, asked_so_far}
use Rattle.pg_check.proofs.lasting.asked_up_to.Goals as goal

pub returns-in-Leaf-clause-asked : goal.returns-in-Leaf-clause-asked
returns-in-Leaf-clause-asked c = λ number le.
    let walk = c.args.walk in
    asked_so_far (record { chain = walk.chain; global = walk.global; asked = c.args.to; dropped = c.if_below.result }) number c.args.to le refl

pub returns-in-Leaf-clause-lasting : goal.returns-in-Leaf-clause-lasting
returns-in-Leaf-clause-lasting c = λ head events h lasts.
    let walk = c.args.walk in
    let chain = walk.chain in
    let kind : c.kind_at.result ≡ kind_of head.cfg chain.end.level chain.end.value =
    c.kind_at.ensures.kind ∙ ap (λ (x : Cfg). kind_of x chain.end.level chain.end.value) (c.cfg.ensures.run head events h) in
    let was = subst (λ (k : Kind). LastsTo head events c.args.p c.args.la walk k) (sym kind ∙ c.in-Leaf.is) lasts in
    let key = translation_key chain.pcid c.in-Leaf.shift walk.global c.args.la in
    let found = subst (λ (k : TranslationKey). IsFirstToPass (drops_at head events c.args.p k) c.unasked-from.result (2 ^ 32 - 1) c.first_drop_of_translation-first.result)
    c.translation_key-key.ensures (c.first_drop_of_translation-first.ensures.run head events h) in
    subst (λ (k : Kind). LastsTo head events c.args.p c.args.la (record { chain = chain; global = walk.global; asked = c.args.to; dropped = c.if_below.result }) k)
    (sym c.in-Leaf.is ∙ kind) (
      was.0,
      c.if_below.ensures (drops_at head events c.args.p key) chain.end.moment
          (c.unasked-from.ensures (drops_at head events c.args.p key) (2 ^ 32 - 1) c.first_drop_of_translation-first.result was.1 found),
    )

pub returns-in-Table : goal.returns-in-Table
returns-in-Table c = record {
  past = refl;
  chain = refl;
  asked = λ number le. asked_so_far (record { chain = c.args.walk.chain; global = c.args.walk.global; asked = c.args.to; dropped = None }) number c.args.to le refl;
  lasting = λ head events h lasts.
      let chain = c.args.walk.chain in
      let kind : c.kind_at.result ≡ kind_of head.cfg chain.end.level chain.end.value =
      c.kind_at.ensures.kind ∙ ap (λ (x : Cfg). kind_of x chain.end.level chain.end.value) (c.cfg.ensures.run head events h) in
      let none : Lasting = record { chain = chain; global = c.args.walk.global; asked = c.args.to; dropped = None } in
      subst (λ (k : Kind). LastsTo head events c.args.p c.args.la none k) kind
      (nothing_lasts head events c.args.p c.args.la none c.kind_at.result c.in-Table.is);
}
