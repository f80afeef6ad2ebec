use Rattle.pg_arguments.specs.Values.{AreFrom1To64, IsNumberIn}
use Rattle.pg_arguments.proofs.Parses.{reads_none, reads_tested}
use Rattle.pg_arguments.proofs.values.checkers_of.Goals as goal

pub returns-in_err-number_in-in-Some : goal.returns-in_err-number_in-in-Some
returns-in_err-number_in-in-Some c = rw (c.in-Some.is, c.from_residual.ensures) (reads_none (IsNumberIn c.in-Some.text.now) AreFrom1To64 c.in_err-number_in-in-Some.ensures)

pub returns-in_ok-number_in-in-Some : goal.returns-in_ok-number_in-in-Some
returns-in_ok-number_in-in-Some c = rw c.in-Some.is (reads_tested (IsNumberIn c.in-Some.text.now) AreFrom1To64 c.in_ok-number_in-in-Some.field-0 c.new.result c.in_ok-number_in-in-Some.ensures c.new.ensures.valid c.new.ensures.value)
