use Rattle.std.proofs.Common.{subst}
use Rattle.pg_world.specs.Recording.{refusal, IsRefusedBy}
use Rattle.pg_world.specs.Walks.{found_in, adds_event}
use Rattle.pg_guest.proofs.Refused.{read_formed, read_stop}
use Rattle.pg_guest.proofs.calls.read_level.Goals as goal

pub stop_of-requires : goal.stop_of-requires
stop_of-requires c =
    let r = c.args.world.now in
    let found = found_in r c.args.p c.args.walk.now in
    let adds = adds_event found in
    read_formed r found c.in-Err.error (subst (λ b. IsRefusedBy adds (refusal r b adds) c.in-Err.error) c.requires c.in-Err.ensures.refused)

pub returns-in-Err-clause-refused : goal.returns-in-Err-clause-refused
returns-in-Err-clause-refused c =
    let r = c.args.world.now in
    let found = found_in r c.args.p c.args.walk.now in
    let adds = adds_event found in
    read_stop r c.args.walk.now.level found c.in-Err.error c.stop_of.result (subst (λ b. IsRefusedBy adds (refusal r b adds) c.in-Err.error) c.requires c.in-Err.ensures.refused) c.stop_of.ensures
