use Rattle.std.proofs.Common.{◌≤◌}
use Rattle.std.proofs.lemmas.Bool.{le-leb}
use Rattle.pg_event.specs.Heads.{most_processors}
use Rattle.pg_codec.specs.Parts.{settings_behind}
use Rattle.pg_codec.proofs.front.settings_after.Goals as goal

pub returns-clause-value : goal.returns-clause-value
unfolding settings_behind
returns-clause-value c =
    let some = le-leb _ _ c.if-count-lt1.false in
    let few : c.in_ok-count.count ≤ most_processors c.args.version =
    rw c.most_processors.ensures at c.if-count-most_processors.false in
    let size = le-leb _ _ c.if-segment-lt1.false in
    let limit = le-leb _ _ c.if-segment-gt-MOST_SEGMENT.false in
    rw (c.in_ok-cfg.ensures.value, c.in_ok-count.ensures, some, le-leb _ _ few, c.in_ok-segment.ensures, size, limit)

pub returns-clause-bounds : goal.returns-clause-bounds
returns-clause-bounds c = record {
  low = c.in_ok-cfg.ensures.bounds.low;
  high = c.in_ok-cfg.ensures.bounds.high;
  flags = c.in_ok-cfg.ensures.bounds.flags;
  some = c.if-count-lt1.false;
  few = rw c.most_processors.ensures at c.if-count-most_processors.false;
  size = c.if-segment-lt1.false;
  limit = c.if-segment-gt-MOST_SEGMENT.false;
}
