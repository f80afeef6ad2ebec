use Rattle.std.proofs.Common.{◌∙◌, ap}
use Rattle.pg_guest.specs.CoreRun.{unwritten}
use Rattle.pg_test_retry.proofs.guest.run.Goals as goal

pub carry_out-requires : goal.carry_out-requires
carry_out-requires c = c.new-world.ensures ∙ ap unwritten (c.in_ok-clone.ensures ∙ c.header.ensures.header)
