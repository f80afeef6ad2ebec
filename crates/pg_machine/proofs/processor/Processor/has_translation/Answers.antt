use Rattle.std.proofs.Common.{rules, tests}
use Rattle.std.proofs.lemmas.Iterator.Adapters.{YieldsList-from_rev_slice}
use Rattle.std.proofs.lemmas.Iterator.Search.{any_from_yields_List}
use Rattle.pg_machine.specs.Machine.{same_translation}
use Rattle.pg_machine.proofs.processor.Processor.has_translation.Goals as goal

pub returns : goal.returns
returns c =
    rw (← c.self.view_is)
    (any_from_yields_List (same_translation c.args.wanted.now) _ _ _ c.any.ensures.ran
    (YieldsList-from_rev_slice c.self.inside.translations.items cc) (λ x b q k. search (rules, tests)))
