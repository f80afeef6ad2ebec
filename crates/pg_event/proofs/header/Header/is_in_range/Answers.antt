use Rattle.std.proofs.Common.{rules}
use Rattle.pg_event.proofs.Ranges.{in_range}
use Rattle.pg_event.proofs.header.Header.is_in_range.Goals as goal

pub returns-then-self-le-MOST_SEGMENT : goal.returns-then-self-le-MOST_SEGMENT
returns-then-self-le-MOST_SEGMENT c = in_range c.args.self.now c.starts_in_range.result c.starts_in_range.ensures (search rules) (search rules) (search rules) (search rules) (search rules) (search rules) (search rules)
