use Rattle.std.proofs.Common.{◌<◌, ◌^◌, arith}
use Rattle.std.proofs.lemmas.Bool.{lt-ltb}
use Rattle.pg_event.specs.Reading.{start_at}
use Rattle.pg_codec.proofs.front.start_of.Goals as goal

pub returns-clause-value : goal.returns-clause-value
unfolding start_at
returns-clause-value c =
    let small : c.in_ok-cr3.cr3 < 2 ^ c.args.maxphyaddr = omega (arith, c.if-cr3-maxphyaddr.false) in
    rw (c.in_ok-cr3.ensures, lt-ltb _ _ small, c.in_ok-pge.ensures, lt-ltb _ _ c.if-pge-ge2.false)

pub returns-clause-cr3 : goal.returns-clause-cr3
returns-clause-cr3 c = omega (arith, c.if-cr3-maxphyaddr.false)
