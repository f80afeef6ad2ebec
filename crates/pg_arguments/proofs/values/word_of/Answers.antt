use Rattle.pg_arguments.specs.Values.{IsAddressIn}
use Rattle.pg_arguments.proofs.Parses.{given, refused}
use Rattle.pg_arguments.proofs.values.word_of.Goals as goal

pub returns-in_err-address_in-in-Some : goal.returns-in_err-address_in-in-Some
returns-in_err-address_in-in-Some c = rw (c.in-Some.is, c.from_residual.ensures) (refused IsAddressIn c.in-Some.text.now c.in_err-address_in-in-Some.ensures)

pub returns-in_ok-address_in-in-Some : goal.returns-in_ok-address_in-in-Some
returns-in_ok-address_in-in-Some c = rw c.in-Some.is (given IsAddressIn c.in-Some.text.now c.in_ok-address_in-in-Some.field-0 c.in_ok-address_in-in-Some.ensures)
