use Rattle.pg_arguments.proofs.Parses.{address_is}
use Rattle.pg_arguments.proofs.values.address_in.Goals as goal

pub returns : goal.returns
returns c = address_is c.args.text.now c.in_ok-after_0x.field-0.now c.hex_in.result c.in_ok-after_0x.ensures c.hex_in.ensures
