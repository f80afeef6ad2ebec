use Rattle.std.proofs.Common.{not, ap, ◌∙◌}
use Rattle.pg_chain.proofs.Walks.{not_not}
use Rattle.pg_chain.proofs.past.Past.structure_survives_counted.Goals as goal

pub returns-clause-run : goal.returns-clause-run
returns-clause-run c = λ head events h. ap not (c.structure_dropped_counted.ensures.run head events h.drops) ∙ not_not _
