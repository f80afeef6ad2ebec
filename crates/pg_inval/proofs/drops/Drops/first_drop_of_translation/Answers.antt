use Rattle.std.proofs.Common.{not, ap}
use Rattle.pg_inval.proofs.drops.Drops.first_drop_of_translation.Goals as goal

pub returns-then-translation_outlasts-clause-run : goal.returns-then-translation_outlasts-clause-run
returns-then-translation_outlasts-clause-run c = λ head events stands.
    ap not (c.translation_outlasts.ensures.run c.if-translation_outlasts.true head events stands c.args.window.to)
