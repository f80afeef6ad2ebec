use Rattle.std.proofs.Common.{List, drop, subst}
use Rattle.pg_inval.specs.declared.log.LogEntry.{LogEntry}
use Rattle.pg_inval.specs.Lists.{has_drop, IsRisingFrom, IsLeastBetween}
use Rattle.pg_inval.proofs.AnyFrom.{IsLeastBetween-same}
use Rattle.pg_inval.proofs.Listings.{take_rest}
use Rattle.pg_inval.proofs.Search.{has_drop-from}
use Rattle.pg_inval.proofs.log.first_in.Goals as goal

pub returns-clause-least : goal.returns-clause-least
returns-clause-least c =
    let log = c.args.log.now in
    let start = c.count_below-start.result in
    let late : IsRisingFrom c.args.window.from (drop start log) → IsLeastBetween (has_drop (drop start log) c.args.key) c.args.window.from c.args.window.to c.first_of.result
    = subst (λ (es : List LogEntry). IsRisingFrom c.args.window.from es → IsLeastBetween (has_drop es c.args.key) c.args.window.from c.args.window.to c.first_of.result) (take_rest start log) (c.first_of.ensures.least c.args.window.from) in
    IsLeastBetween-same (has_drop (drop start log) c.args.key) (has_drop log c.args.key) c.args.window.from c.args.window.to c.first_of.result
    (λ j low. has_drop-from start c.args.window.from log c.args.key j c.count_below-start.ensures.below low) (late c.count_below-start.ensures.rest)
