use Rattle.std.proofs.Common.{refl, ap, sym, subst, ◌∙◌}
use Rattle.pg_inval.specs.declared.key.DropKey.{DropKey}
use Rattle.pg_inval.specs.Lists.{Log}
use Rattle.pg_inval.specs.Drops.{Structure, is_dropped}
use Rattle.pg_inval.proofs.Bounded.{IsOver, structure-outlasts, not_false}
use Rattle.pg_inval.proofs.drops.Drops.structure_outlasts.Goals as goal

pub returns-then-is_over-clause-value : goal.returns-then-is_over-clause-value
returns-then-is_over-clause-value c = λ yes to.
    let s = c.self.inside in
    let own : IsOver s.lasts c.structure_at.result c.args.from = c.are_over.ensures.other yes in
    ap (λ (d : Log). is_dropped d c.args.p (Structure c.args.key) c.args.from to) (sym c.self.view_is)
    ∙ structure-outlasts s.lasts s.log.items c.args.p c.args.key c.args.from to c.self.invariant.3
    (c.if-is_over.ensures refl) (c.are_over.ensures.one yes) (subst (λ (k : DropKey). IsOver s.lasts k c.args.from) c.structure_at.ensures own)

pub returns-then-is_over-clause-run : goal.returns-then-is_over-clause-run
returns-then-is_over-clause-run c = λ yes head events stands to.
    not_false _ (sym (stands.drops c.args.p (Structure c.args.key) c.args.from to c.requires) ∙ returns-then-is_over-clause-value c yes to)
