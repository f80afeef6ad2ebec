use Rattle.std.proofs.Common.{arith}
use Rattle.pg_event.specs.Reading.{byte_at}
use Rattle.pg_codec.proofs.Local.{byte_local}
use Rattle.pg_codec.proofs.Next.{count_fits, next_pulls}
use Rattle.pg_codec.proofs.parts.next_byte.Goals as goal

pub taken-requires : goal.taken-requires
taken-requires g c =
    count_fits 1 byte_at byte_local (omega arith) _ c.byte_of.result c.counted-part.result c.prepare.new.self (rw c.unread.ensures.value at c.byte_of.ensures) c.counted-part.ensures

pub returns : goal.returns
returns g c =
    next_pulls 1 byte_at byte_local (omega arith) g.R.Source _ _ c.prepare.new.self _ _ _ _ c.in_ok-prepare.ensures c.byte_of.result c.counted-part.result _ c.unread.ensures.bytes
    (rw c.unread.ensures.value at c.byte_of.ensures) c.counted-part.ensures c.taken.ensures
