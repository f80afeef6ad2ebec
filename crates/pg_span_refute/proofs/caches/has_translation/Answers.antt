use Rattle.std.proofs.Common.{sym, subst, ◌∙◌}
use Rattle.pg_machine.specs.declared.step.Translation.{Translation}
use Rattle.pg_machine.specs.Machine.{IsIn}
use Rattle.pg_span_refute.proofs.Taken.{in_at}
use Rattle.pg_span_refute.proofs.caches.has_translation.Goals as goal

pub returns-then-same_translation : goal.returns-then-same_translation
returns-then-same_translation c = λ yes.
    subst (λ (t : Translation). IsIn t c.args.translations.now) (sym c.get.ensures.value ∙ c.same_translation.ensures c.if-same_translation.true)
    (in_at c.args.translations.now c.loop-held.held-index c.held-item.result c.loop-held-test.true c.held-item.is)
