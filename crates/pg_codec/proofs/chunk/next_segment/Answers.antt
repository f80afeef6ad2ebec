use Rattle.std.proofs.Common.{rules, ◌∙◌}
use Rattle.pg_event.specs.Reading.{segment_at}
use Rattle.pg_codec.specs.Reads.{seen, is_device}
use Rattle.pg_codec.proofs.Going.{took_then, device_after}
use Rattle.pg_codec.proofs.Steps.{took_after}
use Rattle.pg_codec.proofs.chunk.next_segment.Goals as goal

pub returns-clause-pulls : goal.returns-clause-pulls
unfolding segment_at
returns-clause-pulls g c =
    let found = c.in_ok-found.ensures in
    let count = c.in_ok-count.ensures in
    let read = c.next_events.ensures.pulls in
    record {
      reads = search rules;
      took = took_after (seen (λ v. v.items) c.next_events.result) _ _ _ (took_then _ _ _ found.took count.took) read.took;
      device = device_after is_device (seen (λ v. v.items) c.next_events.result) _ _ _ (count.device ∙ found.device) read.device;
      live = read.live;
    }
