-- What becomes of the numbers of a deque.
use Rattle.std.specs.Prelude.{◌≡◌, ℕ, ◌+◌, ◌≤◌, ◌==◌, Bool, true, List, [], ◌∷◌, ◌++◌, map}
use Rattle.std.specs.Prelude.{count_by, sum_by}
use mathlib.Core.Option.{some}
use lib.ListN.{get_elem?}
use Rattle.pg_pool.specs.declared.deque_view.DequeView.{DequeView}

-- how often a number stands in a list
abbrev pub times : ℕ → List ℕ → ℕ
times n xs = count_by (λ x. x == n) xs

-- what became of the numbers of a deque: those that were pushed, those that are left in it, and
-- for each seat those that it took
pub record DequeNumbers : Type 0 where
  pub pushed : List ℕ
  pub left : List ℕ
  pub taken : List (List ℕ)

-- what is left together with what all seats took is what was pushed, each number as often
abbrev pub AddsUp : DequeNumbers → Type 0
AddsUp s = (n : ℕ) → times n s.left + sum_by (times n) s.taken ≡ times n s.pushed

-- what one seat knows of a deque
abbrev pub deque_view : Bool → List ℕ → List ℕ → DequeView
deque_view alone pushed taken = record { alone = alone; pushed = pushed; taken = taken }

-- the share of a deque, by what all seats know of it
abbrev pub deque_numbers : List ℕ → List ℕ → List DequeView → DequeNumbers
deque_numbers pushed left views =
    record { pushed = pushed; left = left; taken = map (λ h. h.taken) views }

-- a seat knows all that was pushed and, where it says that it is alone, is alone
abbrev pub Knows : List ℕ → List DequeView → DequeView → Type 0
Knows pushed views h = (h.pushed ≡ pushed) × (h.alone ≡ true → views ≡ h ∷ [])

-- the rule of a deque, which each step keeps in every schedule
pub record IsKept (left : List ℕ) (views : List DequeView) : Type 0 where
  pub pushed : List ℕ
  pub adds_up : AddsUp (deque_numbers pushed left views)
  pub known : (port : ℕ) (h : DequeView) → get_elem? views port ≡ some h → Knows pushed views h

-- a push tells: the numbers join those that were pushed
abbrev pub Pushed : DequeView → List ℕ → DequeView → Type 0
Pushed old xs new = new ≡ deque_view old.alone (old.pushed ++ xs) old.taken

-- a pop or a steal tells: the numbers join those that the seat took, and it took none more often
-- than it was pushed
abbrev pub Took : DequeView → List ℕ → DequeView → Type 0
Took old xs new =
    (new ≡ deque_view old.alone old.pushed (old.taken ++ xs))
    × ((n : ℕ) → times n new.taken ≤ times n new.pushed)
