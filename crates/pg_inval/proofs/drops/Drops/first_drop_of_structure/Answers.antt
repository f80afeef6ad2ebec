use Rattle.std.proofs.Common.{not, ap}
use Rattle.pg_inval.proofs.drops.Drops.first_drop_of_structure.Goals as goal

pub returns-then-structure_outlasts-clause-run : goal.returns-then-structure_outlasts-clause-run
returns-then-structure_outlasts-clause-run c = λ head events stands.
    ap not (c.structure_outlasts.ensures.run c.if-structure_outlasts.true head events stands c.args.window.to)
