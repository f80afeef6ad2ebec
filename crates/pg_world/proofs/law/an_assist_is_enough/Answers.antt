use Rattle.pg_world.proofs.Assisted.{an_assist_is_enough}
use Rattle.pg_world.proofs.law.an_assist_is_enough.Goals as goal

pub returns : goal.returns
returns c = an_assist_is_enough
