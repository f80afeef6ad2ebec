use Rattle.std.proofs.Common.{ap, sym, ◌∙◌, List, arith}
use Rattle.std.specs.Option.{unwrap_or}
use Rattle.pg_timeline.specs.declared.timeline.Stamp.{Stamp}
use Rattle.pg_timeline.specs.Timelines.{last_before}
use Rattle.pg_timeline.proofs.timeline.Timeline.span_at.Goals as goal

pub returns-clause-span : goal.returns-clause-span
returns-clause-span g c = record {
  low = c.begin_of.ensures.low;
  high = c.last_of.ensures.high;
  same = λ w low high.
      ap (λ (xs : List (Stamp _)). unwrap_or (last_before w xs) c.args.start) (sym (c.as_slice-stamps.ensures ∙ c.self.view_is))
      ∙ c.value_after.ensures w (omega (arith, c.begin_of.ensures.below w low, c.last_of.ensures.above w high));
}

pub begin_of-requires-clause-rising : goal.begin_of-requires-clause-rising
begin_of-requires-clause-rising g c = rw c.as_slice-stamps.ensures c.self.invariant.rising
