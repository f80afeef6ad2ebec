use Rattle.pg_arguments.specs.Values.{IsPageIn}
use Rattle.pg_arguments.proofs.Parses.{given, refused}
use Rattle.pg_arguments.proofs.values.page_of.Goals as goal

pub returns-in_err-page_in-in-Some : goal.returns-in_err-page_in-in-Some
returns-in_err-page_in-in-Some c = rw (c.in-Some.is, c.from_residual.ensures) (refused IsPageIn c.in-Some.text.now c.in_err-page_in-in-Some.ensures)

pub returns-in_ok-page_in-in-Some : goal.returns-in_ok-page_in-in-Some
returns-in_ok-page_in-in-Some c = rw c.in-Some.is (given IsPageIn c.in-Some.text.now c.in_ok-page_in-in-Some.field-0 c.in_ok-page_in-in-Some.ensures)
