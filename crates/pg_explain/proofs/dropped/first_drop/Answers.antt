use Rattle.std.proofs.Common.{◌≡◌, ℕ, ◌-◌, Bool, Some, None, ap, arith, ◌∙◌, sym}
use Rattle.pg_explain.specs.Drops.{first_from, is_dropped_at}
use Rattle.pg_explain.proofs.Firsts.{first_from-here, first_from-next, first_drop-first, first_drop-after}
use Rattle.pg_explain.proofs.dropped.first_drop.Goals as goal

pub loop-number-init : goal.loop-number-init
loop-number-init c =
    first_drop-after c.args.history.now.head c.args.history.now.events c.args.p c.args.key c.args.from c.args.to c.survives_to-number.result c.survives_to-number.ensures.order c.survives_to-number.ensures.survives

pub loop-number-preserved : goal.loop-number-preserved
loop-number-preserved c =
    sym (first_from-next (is_dropped_at c.args.history.now.head c.args.history.now.events c.args.p c.args.key) c.loop-number.number c.args.to c.loop-number-test.true (sym c.is_dropped_at.ensures ∙ c.if-is_dropped_at.false))
    ∙ c.loop-number.invariant

pub returns-then-is_dropped_at-clause-first : goal.returns-then-is_dropped_at-clause-first
returns-then-is_dropped_at-clause-first c =
    let head = c.args.history.now.head in
    let events = c.args.history.now.events in
    let test : ℕ → Bool = is_dropped_at head events c.args.p c.args.key in
    first_drop-first head events c.args.p c.args.key c.args.from c.args.to (Some c.loop-number.number)
    (sym (first_from-here test c.loop-number.number c.args.to c.loop-number-test.true (sym c.is_dropped_at.ensures ∙ c.if-is_dropped_at.true))
    ∙ c.loop-number.invariant)

pub returns-clause-first : goal.returns-clause-first
returns-clause-first c =
    let head = c.args.history.now.head in
    let events = c.args.history.now.events in
    let test : ℕ → Bool = is_dropped_at head events c.args.p c.args.key in
    let none : c.args.to - c.loop-number.number ≡ 0 = omega (arith, c.loop-number-test.false) in
    first_drop-first head events c.args.p c.args.key c.args.from c.args.to None
    (sym (ap (first_from test c.loop-number.number) none) ∙ c.loop-number.invariant)
