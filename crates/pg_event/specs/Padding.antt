-- A list of one to four numbers, as an array of four whose rest is 0.
use Rattle.std.specs.Prelude.{◌≡◌, ℕ, ◌-◌, ◌≤◌, List, ◌++◌, length, take, drop, replicate}
use Rattle.std.proofs.Common.{arith, length-take, sym, ap, ◌∙◌, take-append-drop}
use Rattle.pg_event.specs.declared.moments.Moments.TheInside.{Inside}

abbrev pub numbers : Inside → List ℕ
numbers a = take a.count a.at

pub record IsPadded (a : Inside) : Type 0 where
  pub some : 1 ≤ a.count
  pub few : a.count ≤ 4
  pub four : length a.at ≡ 4
  pub clear : drop a.count a.at ≡ replicate (4 - a.count) 0

abbrev pub padded : List ℕ → Inside
padded xs = record { count = length xs; at = xs ++ replicate (4 - length xs) 0 }

pub padded-numbers : (a : Inside) → IsPadded a → padded (numbers a) ≡ a
padded-numbers a h =
    let n : length (take a.count a.at) ≡ a.count =
    simp length-take (omega (arith, h.few, h.four)) in
    let whole : take a.count a.at ++ replicate (4 - a.count) 0 ≡ a.at =
    ap (λ zs. take a.count a.at ++ zs) (sym h.clear) ∙ take-append-drop a.count a.at in
    ap (λ k. record { count = k; at = take a.count a.at ++ replicate (4 - k) 0 }) n
    ∙ ap (λ xs. record { count = a.count; at = xs }) whole
