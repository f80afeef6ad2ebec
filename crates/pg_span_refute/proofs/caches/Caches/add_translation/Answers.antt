use Rattle.std.proofs.Common.{refl, subst}
use Rattle.pg_machine.specs.declared.step.Translation.{Translation}
use Rattle.pg_machine.specs.Machine.{IsIn}
use Rattle.pg_span_refute.specs.Caches.{known_of}
use Rattle.pg_span_refute.proofs.Passing.{extends_refl, extends_translation, in_last}
use Rattle.pg_span_refute.proofs.caches.Caches.add_translation.Goals as goal

pub returns-then-has_translation-clause-more : goal.returns-then-has_translation-clause-more
returns-then-has_translation-clause-more c = extends_refl (known_of c.args.self.now)

pub returns-clause-more : goal.returns-clause-more
returns-clause-more c = extends_translation (known_of c.args.self.now) _ c.new.result refl refl c.in_ok-push.ensures.items

pub returns-clause-there : goal.returns-clause-there
returns-clause-there c =
    subst (λ (t : Translation). IsIn t c.push.new.self.items) c.new.ensures (in_last c.new.result c.args.self.now.translations.items c.push.new.self.items c.in_ok-push.ensures.items)
