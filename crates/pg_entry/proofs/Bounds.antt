-- Physical addresses in entries are below 2 ^ 52.
use Rattle.std.proofs.Common.{◌≡◌, ℕ, ◌+◌, ◌-◌, ◌/◌, ◌%◌, ◌^◌, ◌<◌, ◌≤◌, subst, arith}
use Rattle.std.proofs.lemmas.Nat.{shl_below, mod_below, pow_pos}
use lib.Pow.{pow_mono}
use Rattle.pg_entry.specs.Bits.{field}

pub field-below : (word low high : ℕ) → low ≤ high → high ≤ 52 → field word low high < 2 ^ 52
field-below word low high order within =
    let sum : (high - low) + low ≡ high = omega arith in
    let P : ℕ → Type 0 = λ n. field word low high < 2 ^ n in
    let bits : ℕ = word / 2 ^ low % 2 ^ (high - low) in
    let few : bits < 2 ^ (high - low) =
    mod_below (word / 2 ^ low) (2 ^ (high - low)) (pow_pos (high - low)) in
    let here : field word low high < 2 ^ high = subst P sum (shl_below bits (high - low) low few) in
    let most : 2 ^ high ≤ 2 ^ 52 = pow_mono within in
    omega (arith, here, most)
