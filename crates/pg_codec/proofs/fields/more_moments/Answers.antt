use Rattle.pg_codec.proofs.Many.{no_more}
use Rattle.pg_codec.proofs.fields.more_moments.Goals as goal

pub returns-in-0 : goal.returns-in-0
returns-in-0 c = rw c.in-0.is (no_more c.args.front c.args.bytes.now)
