use Rattle.pg_world.proofs.Tables.{tables_have_addresses}
use Rattle.pg_world.proofs.law.tables_have_addresses.Goals as goal

pub returns : goal.returns
returns c = tables_have_addresses
