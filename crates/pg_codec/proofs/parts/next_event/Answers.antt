use Rattle.std.proofs.Common.{arith}
use Rattle.pg_event.specs.Reading.{event_at}
use Rattle.pg_codec.proofs.Named.{gives_event}
use Rattle.pg_codec.proofs.Widths.{event_local}
use Rattle.pg_codec.proofs.Next.{count_fits, next_pulls}
use Rattle.pg_codec.proofs.parts.next_event.Goals as goal

pub taken-requires : goal.taken-requires
taken-requires g c =
    let gives = gives_event _ c.event_of.result c.args.header.now c.args.i _ c.event_of.ensures.value in
    count_fits 38 (event_at c.args.header.now c.args.i) (event_local c.args.header.now c.args.i) (omega arith) _ c.event_of.result c.counted-part.result c.prepare.new.self (rw c.unread.ensures.value at gives) c.counted-part.ensures

pub returns-clause-pulls : goal.returns-clause-pulls
returns-clause-pulls g c =
    let gives = gives_event _ c.event_of.result c.args.header.now c.args.i _ c.event_of.ensures.value in
    next_pulls 38 (event_at c.args.header.now c.args.i) (event_local c.args.header.now c.args.i) (omega arith) g.R.Source _ _ c.prepare.new.self _ _ _ _ c.in_ok-prepare.ensures c.event_of.result c.counted-part.result _ c.unread.ensures.bytes
    (rw c.unread.ensures.value at gives) c.counted-part.ensures c.taken.ensures
