-- The words that table memory holds.
use Rattle.std.specs.Prelude.{ℕ, nat_eq, List, unwrap_or}
use Rattle.std.specs.Map.{lookup}

-- the word at a physical address: what was last put there, 0 at the start
abbrev pub word_in : List (ℕ × ℕ) → ℕ → ℕ
word_in words addr = unwrap_or (lookup (nat_eq addr) words) 0
