use Rattle.pg_runner.proofs.GivenOut.{begun_on}
use Rattle.pg_runner.proofs.ending.ended.Goals as goal

pub result_of-requires-clause-script : goal.result_of-requires-clause-script
result_of-requires-clause-script g c = λ _ _. c.in-Ok-true.ensures.script c.in-Ok-true.field-0-test

pub result_of-requires-clause-ended : goal.result_of-requires-clause-ended
result_of-requires-clause-ended g c = λ _ _. c.in-Ok-true.ensures.told c.in-Ok-true.field-0-test

pub result_of-requires-clause-begun : goal.result_of-requires-clause-begun
result_of-requires-clause-begun g c = λ _ _. begun_on c.args.team c.args.board.world.events c.told_all.new.board.world.events c.in-Ok-true.ensures.grows c.requires
