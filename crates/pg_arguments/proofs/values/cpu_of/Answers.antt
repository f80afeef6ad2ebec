use Rattle.pg_arguments.specs.Values.{IsCpuIn}
use Rattle.pg_arguments.proofs.Parses.{given, refused}
use Rattle.pg_arguments.proofs.values.cpu_of.Goals as goal

pub returns-in_err-cpu_in-in-Some : goal.returns-in_err-cpu_in-in-Some
returns-in_err-cpu_in-in-Some c = rw (c.in-Some.is, c.from_residual.ensures) (refused IsCpuIn c.in-Some.text.now c.in_err-cpu_in-in-Some.ensures)

pub returns-in_ok-cpu_in-in-Some : goal.returns-in_ok-cpu_in-in-Some
returns-in_ok-cpu_in-in-Some c = rw c.in-Some.is (given IsCpuIn c.in-Some.text.now c.in_ok-cpu_in-in-Some.field-0 c.in_ok-cpu_in-in-Some.ensures)
