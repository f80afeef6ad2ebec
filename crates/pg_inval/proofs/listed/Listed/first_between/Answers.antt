use Rattle.pg_inval.specs.Lists.{has_among}
use Rattle.pg_inval.proofs.AnyFrom.{IsFirstDrop-least}
use Rattle.pg_inval.proofs.listed.Listed.first_between.Goals as goal

pub returns-clause-first : goal.returns-clause-first
returns-clause-first c =
    IsFirstDrop-least (has_among c.args.log.now c.args.keys.now) c.args.window.from c.args.window.to c.first_among.result c.first_among.ensures.least
