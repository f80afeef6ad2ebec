use Rattle.std.proofs.Common.{rules, tests}
use Rattle.std.proofs.lemmas.Iterator.Adapters.{YieldsList-from_rev_slice}
use Rattle.std.proofs.lemmas.Iterator.Search.{any_from_yields_List}
use Rattle.pg_machine.specs.Stepping.{gives}
use Rattle.pg_machine.proofs.processor.Processor.has_answer.Goals as goal

pub returns : goal.returns
returns c =
    rw (← c.self.view_is)
    (any_from_yields_List
    (λ t. gives c.args.header.now c.self.inside.control c.args.la c.args.access c.args.outcome t) _ _ _ c.any.ensures.ran
    (YieldsList-from_rev_slice c.self.inside.translations.items cc) (λ x b q k. search (rules, tests)))
