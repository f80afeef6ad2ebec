use Rattle.std.proofs.Common.{◌≡◌, ◌+◌, drop, get_or, refl, ap, sym, ◌∙◌}
use Rattle.std.proofs.lemmas.List.{take_rest}
use Rattle.pg_event.specs.Walk.{below}
use Rattle.pg_explain.specs.Findings.{limit_of, order_at, order_finding}
use Rattle.pg_explain.proofs.Loops.{next_passed}
use Rattle.pg_explain.proofs.walk_finding.order_finding.Goals as goal

pub loop-i-preserved : goal.loop-i-preserved
loop-i-preserved c =
    let number = c.args.number in
    let moments = c.args.moments.now in
    let level = c.loop-i.level in
    let i = c.loop-i.i in
    let moment = get_or moments i 0 in
    let limit : c.limit_of-limit.result ≡ limit_of number (drop (i + 1) moments) = c.limit_of-limit.ensures ∙ ap (limit_of number) (take_rest moments (i + 1)) in
    let found = c.order_at.ensures ∙ ap (order_at level moment) limit in
    rw c.below-level.ensures
    (next_passed (order_finding number level) (order_finding number (below level)) _ moments i 0 _ c.loop-i-test.true refl (sym found ∙ c.in_default.is) c.loop-i.invariant)
