use Rattle.std.proofs.Common.{arith}
use Rattle.pg_codec.specs.Parts.{settings_at}
use Rattle.pg_codec.proofs.Widths.{settings_local}
use Rattle.pg_codec.proofs.Next.{count_fits, next_pulls}
use Rattle.pg_codec.proofs.parts.next_settings.Goals as goal

pub taken-requires : goal.taken-requires
taken-requires g c =
    count_fits 18 settings_at settings_local (omega arith) _ c.settings_of.result c.counted-part.result c.prepare.new.self (rw c.unread.ensures.value at c.settings_of.ensures.value) c.counted-part.ensures

pub returns-clause-pulls : goal.returns-clause-pulls
returns-clause-pulls g c =
    next_pulls 18 settings_at settings_local (omega arith) g.R.Source _ _ c.prepare.new.self _ _ _ _ c.in_ok-prepare.ensures c.settings_of.result c.counted-part.result _ c.unread.ensures.bytes
    (rw c.unread.ensures.value at c.settings_of.ensures.value) c.counted-part.ensures c.taken.ensures
