use Rattle.std.proofs.Common.{ℕ, ◌<◌, refl, arith, subst}
use Rattle.pg_inval.specs.Lasts.{MayBeAt}
use Rattle.pg_inval.proofs.Bounded.{below_or}
use Rattle.pg_inval.proofs.lasts.Lasts.is_over.Goals as goal

pub returns-then-is_below : goal.returns-then-is_below
returns-then-is_below c = λ yes m may.
    below_or m c.args.from (λ from.
    subst (λ (i : ℕ). MayBeAt c.args.self.now.moments i m → m < c.args.from) c.place.ensures (c.is_below.ensures c.if-is_below.true m)
    (may.place (omega (arith, from, c.if-bounds.ensures refl))))

pub returns-else-is_below : goal.returns-else-is_below
returns-else-is_below c = λ yes m may.
    below_or m c.args.from (λ from.
    subst (λ (i : ℕ). MayBeAt c.args.self.now.moments i m → m < c.args.from) c.other_place.ensures (c.is_below-else-is_below.ensures yes m)
    (may.other_place (omega (arith, from, c.if-bounds.ensures refl))))
