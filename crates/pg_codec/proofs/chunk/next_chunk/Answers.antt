use Rattle.std.proofs.Common.{rules, ◌∙◌}
use Rattle.std.specs.Prelude.{option_map}
use Rattle.pg_event.specs.Reading.{chunk_at}
use Rattle.pg_codec.specs.Reads.{seen, is_device}
use Rattle.pg_codec.proofs.Going.{took_then, device_after}
use Rattle.pg_codec.proofs.Steps.{took_after}
use Rattle.pg_codec.proofs.chunk.next_chunk.Goals as goal

pub returns-then-tag-eq2-clause-pulls : goal.returns-then-tag-eq2-clause-pulls
unfolding chunk_at
returns-then-tag-eq2-clause-pulls g c =
    let tag = c.in_ok-tag.ensures in
    let read = c.next_end.ensures.pulls in
    record {
      reads = search rules;
      took = took_after (seen (option_map (λ v. v.items)) c.next_end.result) _ _ _ tag.took read.took;
      device = device_after is_device (seen (option_map (λ v. v.items)) c.next_end.result) _ _ _ tag.device read.device;
      live = read.live;
    }

pub returns-clause-pulls : goal.returns-clause-pulls
unfolding chunk_at
returns-clause-pulls g c =
    let tag = c.in_ok-tag.ensures in
    let read = c.in_ok-events.ensures.pulls in
    record {
      reads = search rules;
      took = took_then _ _ _ tag.took read.took;
      device = read.device ∙ tag.device;
      live = λ e. absurd cc;
    }
