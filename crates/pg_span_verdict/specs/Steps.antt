-- How many steps a trial of all orders has left at most.
use Rattle.std.specs.Prelude.{ℕ, zero, suc, ◌+◌, ◌-◌, ◌*◌, ◌≤◌, Bool, true, false, ◌||◌, ◌==◌}
use Rattle.std.specs.Prelude.{List, [], ◌∷◌, ◌++◌, length}

-- a number is one of a list
unfoldable pub is_one : List ℕ → ℕ → Bool
is_one [] i = false
is_one (x ∷ xs) i = (x == i) || is_one xs i

-- how many more are free by a number that is one of a list or not
abbrev pub one_free : Bool → ℕ
one_free true = 0
one_free false = 1

-- how many of so many numbers, from one on, are none of a list
unfoldable pub free : List ℕ → ℕ → ℕ → ℕ
free front a zero = 0
free front a (suc m) = one_free (is_one front a) + free front (a + 1) m

-- no more of the numbers below n are free than there are places left in an order
abbrev pub HasRoom : ℕ → List ℕ → Type 0
HasRoom n front = free front 0 n + length front ≤ n

-- how many steps there are at most where an order of n has so many places left
unfoldable pub steps : ℕ → ℕ → ℕ
steps n zero = 0
steps n (suc k) = n + suc k * steps n k + 1

-- how many until all numbers from the next one on were put behind these
unfoldable pub own_steps : ℕ → List ℕ → ℕ → ℕ → ℕ
own_steps n front next zero = 0
own_steps n front next (suc k) = (n - next) + free front next (n - next) * steps n k + 1

-- how many until all orders were tried that begin with the numbers that are done
unfoldable pub left : ℕ → List ℕ → List ℕ → ℕ → ℕ
left n done [] next = own_steps n done next (n - length done)
left n done (i ∷ is) next =
    own_steps n done (i + 1) (n - length done) + left n (done ++ i ∷ []) is next
