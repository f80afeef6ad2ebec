use Rattle.pg_guest.proofs.Further.{none_assist_in_version_one}
use Rattle.pg_guest.proofs.laws.none_assist_in_version_one.Goals as goal

pub returns : goal.returns
returns c = none_assist_in_version_one
