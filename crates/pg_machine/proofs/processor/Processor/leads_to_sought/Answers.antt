use Rattle.std.proofs.Common.{rules, tests}
use Rattle.std.proofs.lemmas.Iterator.Adapters.{YieldsList-from_rev_slice}
use Rattle.std.proofs.lemmas.Iterator.Search.{any_from_yields_List}
use Rattle.pg_machine.specs.Stepping.{leads_to_sought}
use Rattle.pg_machine.proofs.processor.Processor.leads_to_sought.Goals as goal

pub returns : goal.returns
returns c =
    rw (← c.self.view_is)
    (any_from_yields_List (leads_to_sought c.args.cfg c.args.memory.now c.args.la c.args.sought c.self.inside.control.pcid) _ _ _ c.any.ensures.ran
    (YieldsList-from_rev_slice c.self.inside.structures.items cc) (λ x b q k. search (rules, tests)))
