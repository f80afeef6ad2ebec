use Rattle.std.proofs.Common.{sym}
use Rattle.pg_arguments.proofs.Told.{number_is_wrong}
use Rattle.pg_arguments.proofs.planner.wrong_in.Goals as goal

pub returns-in-Some : goal.returns-in-Some
returns-in-Some c =
    number_is_wrong c.args.name.now _ c.in-Some.field-0 (sym c.if-has_conflict.ensures) ((c.telling_in.ensures c.in-Some.field-0).0 c.in-Some.is)
