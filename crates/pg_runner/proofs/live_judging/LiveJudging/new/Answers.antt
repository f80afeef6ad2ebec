use Rattle.pg_runner.proofs.GivenOut.{fresh_watched}
use Rattle.pg_runner.proofs.live_judging.LiveJudging.new.Goals as goal

pub invariant_of-result : goal.invariant_of-result
invariant_of-result g c = fresh_watched c.in_ok-team.team c.args.header c.args.given c.in_ok-team.ensures.team c.requires.given
