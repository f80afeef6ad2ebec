use Rattle.pg_entry.proofs.Leaves.{offset-lt}
use Rattle.pg_entry.proofs.pages.page_offset.Goals as goal

pub returns-clause-within : goal.returns-clause-within
returns-clause-within c = rw c.page_size.ensures (offset-lt c.args.la c.args.shift c.requires)
