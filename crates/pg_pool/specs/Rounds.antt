-- The numbers of a round, and how they are dealt.
use Rattle.std.specs.Prelude.{ℕ, ◌+◌, ◌-◌, ◌/◌, ◌%◌, ◌≤◌, ◌<◌, ◌==◌, List, ◌∷◌, ◌++◌, filter}
use Rattle.std.specs.List.{range_with_len}
use Rattle.pg_pool.specs.declared.round.Round.{Round}

abbrev pub round : ℕ → ℕ → Round
round first last = record { first = first; last = last }

abbrev pub IsIn : Round → ℕ → Type 0
IsIn r n = (r.first ≤ n) × (n < r.last)

-- all numbers of a round, in order
abbrev pub numbers : Round → List ℕ
numbers r = range_with_len r.first (r.last - r.first)

-- a round can have so many checkers
abbrev pub AreCheckers : ℕ → Type 0
AreCheckers n = (1 ≤ n) × (n ≤ 64)

-- the numbers that are dealt to one of so many checkers, so many at a time
abbrev pub dealt : Round → ℕ → ℕ → ℕ → List ℕ
dealt r size checkers c = filter (λ n. ((n - r.first) / size) % checkers == c) (numbers r)

-- the other checkers of so many, in the order in which one visits their deques: those above it,
-- then those below it
abbrev pub others : ℕ → ℕ → List ℕ
others checkers c = range_with_len (c + 1) (checkers - (c + 1)) ++ range_with_len 0 c

-- the checkers in the order in which one visits their deques: its own first
abbrev pub visited : ℕ → ℕ → List ℕ
visited checkers c = c ∷ others checkers c
