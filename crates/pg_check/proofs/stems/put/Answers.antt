use Rattle.pg_check.proofs.Uppers.{stems_kept}
use Rattle.pg_check.proofs.stems.put.Goals as goal

pub returns-then-place-len : goal.returns-then-place-len
returns-then-place-len c = λ past limit has have. stems_kept past limit c.args.stems.now.items c.args.place _ have has
