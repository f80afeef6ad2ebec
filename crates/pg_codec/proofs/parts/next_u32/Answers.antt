use Rattle.std.proofs.Common.{arith}
use Rattle.std.specs.Int.{w32}
use Rattle.pg_event.specs.Reading.{number_at}
use Rattle.pg_codec.proofs.Local.{number_local}
use Rattle.pg_codec.proofs.Next.{count_fits, next_pulls}
use Rattle.pg_codec.proofs.parts.next_u32.Goals as goal

pub taken-requires : goal.taken-requires
taken-requires g c =
    count_fits 4 (number_at w32) (number_local w32) (omega arith) _ c.u32_of.result c.counted-part.result c.prepare.new.self (rw c.unread.ensures.value at c.u32_of.ensures) c.counted-part.ensures

pub returns : goal.returns
returns g c =
    next_pulls 4 (number_at w32) (number_local w32) (omega arith) g.R.Source _ _ c.prepare.new.self _ _ _ _ c.in_ok-prepare.ensures c.u32_of.result c.counted-part.result _ c.unread.ensures.bytes
    (rw c.unread.ensures.value at c.u32_of.ensures) c.counted-part.ensures c.taken.ensures
