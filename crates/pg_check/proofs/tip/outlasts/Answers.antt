use Rattle.std.proofs.Common.{◌≡◌, true, subst}
use Rattle.pg_event.specs.declared.keys.TranslationKey.{TranslationKey}
use Rattle.pg_event.specs.Witness.{translation_survives}
use Rattle.pg_check.proofs.tip.outlasts.Goals as goal

pub returns-then-not-slot-clause-run : goal.returns-then-not-slot-clause-run
returns-then-not-slot-clause-run c = λ yes to head events h.
    let s = c.args.slot.now in
    subst (λ (k : TranslationKey). translation_survives head events s.p k s.asked to ≡ true) c.translation_key-key.ensures
    (c.translation_outlasts.ensures.run yes to head events h)
