use Rattle.std.proofs.Common.{rules, nat_lt}
use Rattle.std.proofs.lemmas.Fn.{filter_same}
use Rattle.pg_inval.proofs.log.forget_entries.Goals as goal

pub returns : goal.returns
returns c = filter_same _ (λ e. nat_lt e.moment c.args.moment) _ (λ x b f k. search rules) _ _ c.retain.ensures.filtered
