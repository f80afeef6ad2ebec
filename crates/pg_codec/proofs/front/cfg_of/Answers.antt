use Rattle.std.proofs.Common.{refl}
use Rattle.std.proofs.lemmas.Bool.{lt-ltb, le-leb}
use Rattle.pg_codec.specs.Parts.{cfg_at}
use Rattle.pg_codec.proofs.front.cfg_of.Goals as goal

pub returns-clause-value : goal.returns-clause-value
unfolding cfg_at
returns-clause-value c =
    let m_low = le-leb _ _ c.if-maxphyaddr-lt-LEAST_MAXPHYADDR.false in
    let m_high = le-leb _ _ c.if-maxphyaddr-gt-MOST_MAXPHYADDR.false in
    let flags = lt-ltb _ _ c.if-flags-ge16.false in
    rw (c.in_ok-maxphyaddr.ensures, m_low, m_high, c.in_ok-flags.ensures, flags)

pub returns-clause-bounds : goal.returns-clause-bounds
returns-clause-bounds c = record {
  low = c.if-maxphyaddr-lt-LEAST_MAXPHYADDR.false;
  high = c.if-maxphyaddr-gt-MOST_MAXPHYADDR.false;
  flags = c.if-flags-ge16.false;
  rules = refl;
}
