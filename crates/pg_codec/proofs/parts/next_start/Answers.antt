use Rattle.std.proofs.Common.{arith}
use Rattle.pg_event.specs.Reading.{start_at}
use Rattle.pg_codec.proofs.Widths.{start_local}
use Rattle.pg_codec.proofs.Next.{count_fits, next_pulls}
use Rattle.pg_codec.proofs.parts.next_start.Goals as goal

pub taken-requires : goal.taken-requires
taken-requires g c =
    count_fits 9 (start_at c.args.maxphyaddr) (start_local c.args.maxphyaddr) (omega arith) _ c.start_of.result c.counted-part.result c.prepare.new.self (rw c.unread.ensures.value at c.start_of.ensures.value) c.counted-part.ensures

pub returns-clause-pulls : goal.returns-clause-pulls
returns-clause-pulls g c =
    next_pulls 9 (start_at c.args.maxphyaddr) (start_local c.args.maxphyaddr) (omega arith) g.R.Source _ _ c.prepare.new.self _ _ _ _ c.in_ok-prepare.ensures c.start_of.result c.counted-part.result _ c.unread.ensures.bytes
    (rw c.unread.ensures.value at c.start_of.ensures.value) c.counted-part.ensures c.taken.ensures
