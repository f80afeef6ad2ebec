use Rattle.pg_codec.proofs.Pushed.{event_in_order}
use Rattle.pg_codec.proofs.spelling.push_event.Goals as goal

pub returns : goal.returns
returns c = event_in_order c.args.version c.args.event.now c.args.block.now _ _ _ c.push_event_head.ensures c.push_bare.ensures c.push_named.ensures
