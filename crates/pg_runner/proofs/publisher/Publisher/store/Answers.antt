use Rattle.std.proofs.Common.{rules, arith, ap}
use Rattle.pg_runner.specs.declared.seen.Seen.{Seen}
use Rattle.pg_runner.proofs.Steps.{stores}
use Rattle.pg_runner.proofs.publisher.Publisher.store.Goals as goal

pub store-requires : goal.store-requires
store-requires c =
    let k = c.self.invariant.knows in
    let f = c.self.invariant.pair in
    let a = c.max.ensures in
    let b = c.max-2.ensures in
    let e = ap (λ (v : Seen). v.events) k in
    let g = ap (λ (v : Seen). v.segments) k in
    let h = c.requires.pair in
    (search rules, search rules, stores _ _ _ c.max.result c.max-2.result (ap (λ (v : Seen). v.stores) k) (omega (arith, a, e)) (omega (arith, b, g)) (c.max.type_inv, omega (arith, a, b, f.1, h)))
