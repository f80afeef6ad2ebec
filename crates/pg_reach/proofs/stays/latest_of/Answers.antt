use Rattle.std.proofs.Common.{◌≡◌, ◌+◌, ◌-◌, ◌<◌, ◌≤◌, ℕ, List, Some, sym, subst, arith}
use Rattle.pg_event.specs.declared.control.Control.{Control}
use Rattle.pg_timeline.specs.declared.timeline.Span.{Span}
use Rattle.pg_reach.specs.Stays.{IsCountTo, IsLatest}
use Rattle.pg_reach.proofs.Order.{latest_early, latest_there}
use Rattle.pg_reach.proofs.stays.latest_of.Goals as goal

pub returns-then-at-moment : goal.returns-then-at-moment
returns-then-at-moment c =
    let xs : List (Span Control) = c.args.spans.now in
    let n : ℕ = c.count_to-count.result - 1 in
    let is : c.count_to-count.result ≡ n + 1 = omega (arith, c.if-count-eq0.false) in
    let counted : IsCountTo xs c.args.to (n + 1) = subst (IsCountTo xs c.args.to) is c.count_to-count.ensures in
    subst (λ m. IsLatest xs c.args.at c.args.to (Some m)) (sym c.min-moment.ensures)
    (latest_there xs c.args.at c.args.to n _ c.requires.order counted (subst (λ m. c.args.at ≤ m) c.min-moment.ensures c.if-at-moment.true))

pub returns-else-at-moment : goal.returns-else-at-moment
returns-else-at-moment c =
    let xs : List (Span Control) = c.args.spans.now in
    let n : ℕ = c.count_to-count.result - 1 in
    let is : c.count_to-count.result ≡ n + 1 = omega (arith, c.if-count-eq0.false) in
    let counted : IsCountTo xs c.args.to (n + 1) = subst (IsCountTo xs c.args.to) is c.count_to-count.ensures in
    latest_early xs c.args.at c.args.to n _ c.requires.order counted (subst (λ m. m < c.args.at) c.min-moment.ensures c.if-at-moment.false)
