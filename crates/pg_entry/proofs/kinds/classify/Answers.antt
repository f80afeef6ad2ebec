use Rattle.pg_entry.proofs.Leaves.{kind_of-small}
use Rattle.pg_entry.proofs.kinds.classify.Goals as goal

pub returns-clause-small : goal.returns-clause-small
returns-clause-small c = rw c.kind_of.ensures (kind_of-small c.args.cfg c.args.level c.args.entry.0 c.requires.0 c.requires.1)
