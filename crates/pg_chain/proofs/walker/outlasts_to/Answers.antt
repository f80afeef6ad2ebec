use Rattle.std.proofs.Common.{◌≡◌, true, subst}
use Rattle.pg_event.specs.declared.keys.StructureKey.{StructureKey}
use Rattle.pg_event.specs.Witness.{structure_survives}
use Rattle.pg_chain.proofs.walker.outlasts_to.Goals as goal

pub returns-else-window : goal.returns-else-window
returns-else-window c = λ yes head events h.
    subst (λ (key : StructureKey). structure_survives head events c.args.p key c.args.window.from c.args.window.to ≡ true) c.structure_key.ensures
    (c.structure_outlasts.ensures yes c.args.window.to head events h)
