use Rattle.pg_entry.proofs.Bounds.{field-below}
use Rattle.pg_entry.proofs.kinds.table_of.Goals as goal

pub returns-clause-within : goal.returns-clause-within
returns-clause-within c =
    rw c.field.ensures (field-below c.args.entry.0 12 c.args.maxphyaddr c.requires.0 c.requires.1)
