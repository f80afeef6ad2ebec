use Rattle.std.proofs.Common.{ℕ, suc, ◌<◌, ◌^◌, List, [], ◌∷◌, get_or, arith}
use Rattle.std.specs.List.{AllByRecursion}
use Rattle.pg_certify.proofs.walk.numbers_fit.Goals as goal

-- a bound at each place
all_below : (bound : ℕ) (ns : List ℕ) → ((i : ℕ) → get_or ns i 0 < bound) → AllByRecursion (λ n. n < bound) ns
all_below bound [] h = tt
all_below bound (n ∷ ns) h = (h 0, all_below bound ns (λ i. h (suc i)))

pub returns : goal.returns
returns c = all_below (2 ^ 32) c.args.numbers.now (λ i. omega (arith, c.type_inv.numbers i))
