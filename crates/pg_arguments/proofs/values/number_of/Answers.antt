use Rattle.pg_arguments.proofs.values.number_of.Goals as goal

pub returns-in-Some : goal.returns-in-Some
returns-in-Some c = rw c.in-Some.is c.number_in.ensures
