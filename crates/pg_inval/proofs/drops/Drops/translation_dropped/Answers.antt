use Rattle.std.proofs.Common.{◌≡◌, not, subst}
use Rattle.pg_event.specs.declared.keys.TranslationKey.{TranslationKey}
use Rattle.pg_event.specs.Witness.{translation_survives}
use Rattle.pg_inval.proofs.drops.Drops.translation_dropped.Goals as goal

pub returns-clause-run : goal.returns-clause-run
returns-clause-run c = λ head events stands.
    subst (λ (key : TranslationKey). c.translation_dropped_counted.result ≡ not (translation_survives head events c.args.p key c.args.from c.args.to))
    c.translation_key-key.ensures (c.translation_dropped_counted.ensures.run head events stands)
