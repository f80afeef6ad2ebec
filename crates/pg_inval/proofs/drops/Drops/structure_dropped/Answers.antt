use Rattle.std.proofs.Common.{◌≡◌, not, subst}
use Rattle.pg_event.specs.declared.keys.StructureKey.{StructureKey}
use Rattle.pg_event.specs.Witness.{structure_survives}
use Rattle.pg_inval.proofs.drops.Drops.structure_dropped.Goals as goal

pub returns-clause-run : goal.returns-clause-run
returns-clause-run c = λ head events stands.
    subst (λ (key : StructureKey). c.structure_dropped_counted.result ≡ not (structure_survives head events c.args.p key c.args.from c.args.to))
    c.structure_key-key.ensures (c.structure_dropped_counted.ensures.run head events stands)
