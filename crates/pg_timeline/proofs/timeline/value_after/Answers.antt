use Rattle.std.proofs.Common.{◌≡◌, ◌+◌, ◌-◌, ap, ◌∙◌, arith}
use Rattle.std.specs.Option.{unwrap_or}
use Rattle.pg_timeline.proofs.Halves.{last_before-none, last_before-some}
use Rattle.pg_timeline.specs.Timelines.{count_below}
use Rattle.pg_timeline.proofs.timeline.value_after.Goals as goal

pub returns-then-count-eq0 : goal.returns-then-count-eq0
returns-then-count-eq0 g c = λ w e. ap (λ o. unwrap_or o c.args.start) (last_before-none w c.args.stamps.now c.requires.rising (e ∙ c.if-count-eq0.true))

pub returns-else-count-eq0 : goal.returns-else-count-eq0
returns-else-count-eq0 g c = λ w e.
    let some : count_below w c.args.stamps.now ≡ c.args.count - 1 + 1 = omega (arith, e, c.if-count-eq0.false) in
    ap (λ o. unwrap_or o c.args.start) (last_before-some w (c.args.count - 1) c.args.stamps.now c.index-stamps-count.result c.requires.rising some)
