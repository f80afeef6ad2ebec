use Rattle.pg_codec.proofs.Steps.{finds_end}
use Rattle.pg_codec.proofs.chunk.is_at_end.Goals as goal

pub returns : goal.returns
returns g c = finds_end g.R.Source _ c.prepare.new.self _ _ c.is_empty.result c.in_ok-prepare.ensures (rw c.unread.ensures.value at c.is_empty.ensures)
