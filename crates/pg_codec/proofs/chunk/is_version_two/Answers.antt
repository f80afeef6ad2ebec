use Rattle.pg_codec.proofs.Steps.{finds_two}
use Rattle.pg_codec.proofs.chunk.is_version_two.Goals as goal

pub returns : goal.returns
returns g c = finds_two g.R.Source _ c.prepare.new.self _ _ c.says_two.result c.in_ok-prepare.ensures (rw c.unread.ensures.value at c.says_two.ensures)
