use Rattle.std.proofs.Common.{◌≡◌, sym, ap, subst, ◌∙◌, refl, false, None}
use Rattle.pg_entry.specs.declared.Cfg.{Cfg}
use Rattle.pg_entry.specs.declared.Kind.{Kind}
use Rattle.pg_entry.specs.Kinds.{kind_of}
use Rattle.pg_check.specs.declared.lasting.Lasting.{Lasting}
use Rattle.pg_check.specs.Lasting.{LastsTo}
use Rattle.pg_check.proofs.Lastings.{nothing_lasts, not_yet}
use Rattle.pg_check.proofs.lasting.lasting_chain.Goals as goal

pub returns-in-Leaf-clause-lasting : goal.returns-in-Leaf-clause-lasting
returns-in-Leaf-clause-lasting c = λ head events h.
    let chain = c.args.chain in
    let global = c.is_global.result in
    let kind : c.kind_at.result ≡ kind_of head.cfg chain.end.level chain.end.value =
    c.kind_at.ensures.kind ∙ ap (λ (x : Cfg). kind_of x chain.end.level chain.end.value) (c.cfg.ensures.run head events h) in
    subst (λ (k : Kind). LastsTo head events c.args.p c.args.la (record { chain = chain; global = global; asked = chain.end.moment; dropped = None }) k)
    (sym c.in-Leaf.is ∙ kind) (
      c.is_global.ensures.global head events h,
      not_yet head events c.args.p _ chain.end.moment,
    )

pub returns-in-Table : goal.returns-in-Table
returns-in-Table c = record {
  past = refl;
  chain = refl;
  lasting = λ head events h.
      let chain = c.args.chain in
      let kind : c.kind_at.result ≡ kind_of head.cfg chain.end.level chain.end.value =
      c.kind_at.ensures.kind ∙ ap (λ (x : Cfg). kind_of x chain.end.level chain.end.value) (c.cfg.ensures.run head events h) in
      let none : Lasting = record { chain = chain; global = false; asked = chain.end.moment; dropped = None } in
      subst (λ (k : Kind). LastsTo head events c.args.p c.args.la none k) kind
      (nothing_lasts head events c.args.p c.args.la none c.kind_at.result c.in-Table.is);
}
