use Rattle.std.proofs.Common.{◌≡◌, subst}
use Rattle.pg_event.specs.declared.keys.StructureKey.{StructureKey}
use Rattle.pg_event.specs.Witness.{structure_survives}
use Rattle.pg_chain.proofs.walker.survives_to.Goals as goal

pub returns-else-window-clause-survives : goal.returns-else-window-clause-survives
returns-else-window-clause-survives c = λ head events h.
    subst (λ (key : StructureKey). c.structure_survives.result ≡ structure_survives head events c.args.p key c.args.window.from c.args.window.to) c.structure_key.ensures
    (c.structure_survives.ensures.run head events h)
