use Rattle.pg_codec.proofs.Adding.{left_fits, front_pulls, event_well}
use Rattle.pg_codec.proofs.parts.add_next.Goals as goal

pub keep_last-requires : goal.keep_last-requires
keep_last-requires g c =
    let x = rw c.unread-bytes.ensures.value at (c.in-Some.ensures.added c.args.i) in
    left_fits c.args.header.now c.args.i c.args.buffer.now c.in-Some.left x.0 x.1 x.2

pub returns-in-Some : goal.returns-in-Some
returns-in-Some g c =
    let x = rw c.unread-bytes.ensures.value at (c.in-Some.ensures.added c.args.i) in
    let enough = rw c.unread-bytes.ensures.value at c.if-bytes-ge-LONGEST_PART.true in
    (x.0.0, front_pulls g.R.Source c.args.header.now c.args.i c.args.buffer.now c.keep_last.new.self c.args.source.now c.in-Some.left x.0 enough c.unread-bytes.ensures.bytes x.1 x.2 c.keep_last.ensures, x.3, event_well c.args.header.now c.args.i c.args.buffer.now x.0 x.1)
