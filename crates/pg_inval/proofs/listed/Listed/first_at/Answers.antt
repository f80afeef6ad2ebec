use Rattle.pg_inval.specs.Lists.{has_drop}
use Rattle.pg_inval.proofs.AnyFrom.{IsLeastBetween-none}
use Rattle.pg_inval.proofs.Bounded.{none-over}
use Rattle.pg_inval.proofs.listed.Listed.first_at.Goals as goal

pub returns-then-is_over-clause-least : goal.returns-then-is_over-clause-least
returns-then-is_over-clause-least c =
    IsLeastBetween-none (has_drop c.args.log.now c.args.key) c.args.window.from c.args.window.to
    (none-over c.args.lasts.now c.args.log.now c.args.key c.args.window.from c.requires.bounded (c.is_over.ensures c.if-is_over.true))
