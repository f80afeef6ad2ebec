use Rattle.pg_arguments.specs.Commands.{options_of}
use Rattle.pg_arguments.proofs.Parses.{asks_explain, asks_no_explain}
use Rattle.pg_arguments.proofs.planner.command_of.Goals as goal

pub returns-in_err-asked_of_explain-in-explain : goal.returns-in_err-asked_of_explain-in-explain
returns-in_err-asked_of_explain-in-explain c = rw c.from_residual-in_err-asked_of_explain-in-explain.ensures (asks_no_explain c.args.name.now (options_of c.args.own.now) c.in-explain.is c.in_err-asked_of_explain-in-explain.ensures)

pub returns-in_ok-asked_of_explain-in-explain : goal.returns-in_ok-asked_of_explain-in-explain
returns-in_ok-asked_of_explain-in-explain c = asks_explain c.args.name.now (options_of c.args.own.now) c.in_ok-asked_of_explain-in-explain.field-0 c.in-explain.is c.in_ok-asked_of_explain-in-explain.ensures
