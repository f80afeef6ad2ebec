use Rattle.std.proofs.Common.{◌≡◌, ◌≤◌, length, drop, List, Some, ap, sym, subst, ◌∙◌}
use Rattle.std.specs.List.{slice_get}
use Rattle.std.proofs.lemmas.List.{drop_all}
use Rattle.std.proofs.lemmas.Option.{slice_get-get_or}
use Rattle.pg_inval.specs.declared.log.LogEntry.{LogEntry}
use Rattle.pg_inval.specs.Lists.{IsRisingFrom}
use Rattle.pg_inval.proofs.Search.{least-found, least-past, rising_at}
use Rattle.pg_inval.proofs.log.first_of.Goals as goal

pub returns-in_err-entry-clause-least : goal.returns-in_err-entry-clause-least
returns-in_err-entry-clause-least c = λ from rising.
    let log = c.args.log.now in
    let i = c.count_without-count.result in
    let past : length log ≤ i = c.in_err-entry.ensures.lookup.3 in
    let late : IsRisingFrom c.args.to (drop i log) = subst (λ (es : List LogEntry). IsRisingFrom c.args.to es) (sym (drop_all i log past)) tt in
    rw c.from_residual.ensures (least-past from c.args.to i log c.args.key c.count_without-count.ensures.without late)

pub returns-then-entry-to-clause-least : goal.returns-then-entry-to-clause-least
returns-then-entry-to-clause-least c = λ from rising.
    let log = c.args.log.now in
    let i = c.count_without-count.result in
    let e = c.in_ok-entry.entry.now in
    let found = c.in_ok-entry.ensures.lookup in
    let at : slice_get log i ≡ Some e = slice_get-get_or log i e found.3.0 ∙ ap Some (sym (found.3.1 e)) in
    least-found from c.args.to i log c.args.key e rising at c.if-entry-to.true c.count_without-count.ensures.without (c.count_without-count.ensures.stop e at c.if-entry-to.true)

pub returns-else-entry-to-clause-least : goal.returns-else-entry-to-clause-least
returns-else-entry-to-clause-least c = λ from rising.
    let log = c.args.log.now in
    let i = c.count_without-count.result in
    let e = c.in_ok-entry.entry.now in
    let found = c.in_ok-entry.ensures.lookup in
    let at : slice_get log i ≡ Some e = slice_get-get_or log i e found.3.0 ∙ ap Some (sym (found.3.1 e)) in
    least-past from c.args.to i log c.args.key c.count_without-count.ensures.without (rising_at from i c.args.to log e rising at c.if-entry-to.false)
