-- How many steps a trial of all orders takes.
use Rattle.std.proofs.Common.{◌≡◌, ℕ, zero, suc, ◌+◌, ◌-◌, ◌*◌, ◌/◌, ◌<◌, ◌≤◌, List, [], ◌∷◌, ◌++◌, length, Bool, true, false, refl, sym, ap, subst, ◌∙◌, arith, inl, inr, ◌⊎◌}
use Rattle.std.specs.Prelude.{◌||◌, ◌==◌}
use Rattle.std.proofs.lemmas.Bool.{cases_lt, eqb-true, eq-eqb}
use Rattle.std.proofs.lemmas.List.{length-append}
use Rattle.std.proofs.lemmas.Nat.{le-div}
use Rattle.pg_span_verdict.specs.Steps.{is_one, one_free, free, HasRoom, steps, own_steps, left}
use Rattle.pg_span_verdict.specs.Trying.{Lacks}
use Rattle.pg_span_verdict.proofs.Fronts.{joined, no_end}

either : (x y z : Bool) → (x || (y || z)) ≡ ((x || y) || z)
either true y z = refl
either false y z = refl

or_false : (b : Bool) → (b || false) ≡ b
or_false true = refl
or_false false = refl

or_true : (b : Bool) → (b || true) ≡ true
or_true true = refl
or_true false = refl

one_more : (front : List ℕ) (i j : ℕ) → is_one (front ++ i ∷ []) j ≡ (is_one front j || (i == j))
unfolding is_one
one_more [] i j = or_false (i == j)
one_more (x ∷ xs) i j = ap (λ b. (x == j) || b) (one_more xs i j) ∙ either (x == j) (is_one xs j) (i == j)

-- the number itself is one, and of others nothing changes
one_same : (front : List ℕ) (i : ℕ) → is_one (front ++ i ∷ []) i ≡ true
one_same front i = one_more front i i ∙ (ap (λ b. is_one front i || b) (eq-eqb i i refl) ∙ or_true (is_one front i))

not_same : (b : Bool) → (b ≡ true → ⊥) → b ≡ false
not_same true other = absurd (other refl)
not_same false other = refl

one_other : (front : List ℕ) (i j : ℕ) → (i ≡ j → ⊥) → is_one (front ++ i ∷ []) j ≡ is_one front j
one_other front i j other =
    one_more front i j ∙ (ap (λ b. is_one front j || b) (not_same (i == j) (λ h. other (eqb-true i j h))) ∙ or_false (is_one front j))

-- a number below all that are counted changes nothing
free_behind : (front : List ℕ) (i a m : ℕ) → i < a → free (front ++ i ∷ []) a m ≡ free front a m
unfolding free
free_behind front i a zero below = refl
free_behind front i a (suc m) below =
    let own = one_other front i a (λ same. omega (arith, same, below)) in
    ap (λ b. one_free b + free (front ++ i ∷ []) (a + 1) m) own ∙ ap (λ k. one_free (is_one front a) + k) (free_behind front i (a + 1) m (omega (arith, below)))

one_at_most : (b : Bool) → one_free b ≤ 1
one_at_most true = omega arith
one_at_most false = omega arith

same_or_above : (a i : ℕ) → a ≤ i → (a ≡ i) ⊎ (a + 1 ≤ i)
same_or_above a i le = elim (cases_lt a i) [
  | inl less ↦ inr (omega (arith, less))
  | inr more ↦ inl (omega (arith, le, more))
]

-- a number that is taken out makes at most one more
pub free_less : (front : List ℕ) (i a m : ℕ) → free front a m ≤ free (front ++ i ∷ []) a m + 1
unfolding free
free_less front i a zero = omega arith
free_less front i a (suc m) = elim (cases_lt a i) [
  | inl less ↦
      let own = one_other front i a (λ same. omega (arith, same, less)) in
      omega (arith, ap one_free own, free_less front i (a + 1) m)
  | inr more ↦ elim (cases_lt i a) [
    | inl less ↦
        let own = one_other front i a (λ same. omega (arith, same, less)) in
        omega (arith, ap one_free own, free_less front i (a + 1) m)
    | inr same ↦
        omega (arith, one_at_most (is_one front a), free_behind front i (a + 1) m (omega (arith, more, same)))
  ]
]

-- a number that was none and is added leaves one less
pub free_more : (front : List ℕ) (i a m : ℕ) → is_one front i ≡ false → a ≤ i → i < a + m → free (front ++ i ∷ []) a m + 1 ≡ free front a m
unfolding free
free_more front i a zero none low high = absurd (omega (arith, low, high))
free_more front i a (suc m) none low high = elim (same_or_above a i low) [
  | inl same ↦
      let is : is_one (front ++ i ∷ []) a ≡ true = subst (λ j. is_one (front ++ i ∷ []) j ≡ true) (sym same) (one_same front i) in
      let was : is_one front a ≡ false = subst (λ j. is_one front j ≡ false) (sym same) none in
      omega (arith, ap one_free is, ap one_free was, free_behind front i (a + 1) m (omega (arith, same)))
  | inr above ↦
      let own = one_other front i a (λ same. omega (arith, same, above)) in
      omega (arith, ap one_free own, free_more front i (a + 1) m none above (omega (arith, high)))
]

pub few_enough : (n : ℕ) → n ≤ 8 → steps n n * (n + 1) ≤ 10000000
unfolding steps
few_enough zero le = omega arith
few_enough (suc zero) le = omega arith
few_enough (suc (suc zero)) le = omega arith
few_enough (suc (suc (suc zero))) le = omega arith
few_enough (suc (suc (suc (suc zero)))) le = omega arith
few_enough (suc (suc (suc (suc (suc zero))))) le = omega arith
few_enough (suc (suc (suc (suc (suc (suc zero)))))) le = omega arith
few_enough (suc (suc (suc (suc (suc (suc (suc zero))))))) le = omega arith
few_enough (suc (suc (suc (suc (suc (suc (suc (suc zero)))))))) le = omega arith
few_enough (suc (suc (suc (suc (suc (suc (suc (suc (suc n))))))))) le = absurd (omega (arith, le))

pub free_at_most : (front : List ℕ) (a m : ℕ) → free front a m ≤ m
unfolding free
free_at_most front a zero = omega arith
free_at_most front a (suc m) = omega (arith, one_at_most (is_one front a), free_at_most front (a + 1) m)

pub room_of_none : (n : ℕ) → HasRoom n []
room_of_none n = omega (arith, free_at_most [] 0 n)

pub room_on : (n : ℕ) (front : List ℕ) (i : ℕ) → i < n → is_one front i ≡ false → HasRoom n front → HasRoom n (front ++ i ∷ [])
room_on n front i low none room = omega (arith, free_more front i 0 n none (omega arith) (omega (arith, low)), length-append front (i ∷ []), room)

pub room_back : (n : ℕ) (front : List ℕ) (i : ℕ) → HasRoom n (front ++ i ∷ []) → HasRoom n front
room_back n front i room = omega (arith, free_less front i 0 n, length-append front (i ∷ []), room)

free_step : (front : List ℕ) (i m : ℕ) → free front i (suc m) ≡ one_free (is_one front i) + free front (i + 1) m
unfolding free
free_step front i m = refl

fewer : (b : Bool) (f s : ℕ) → f * s ≤ (one_free b + f) * s
fewer true f s = omega arith
fewer false f s = omega arith

own_past : (n : ℕ) (front : List ℕ) (i room : ℕ) → i < n → 0 < room → own_steps n front (i + 1) room + 1 ≤ own_steps n front i room
unfolding own_steps
own_past n front i zero low some = absurd (omega (arith, some))
own_past n front i (suc k) low some =
    let m : ℕ = n - (i + 1) in
    let next : n - i ≡ suc m = omega (arith, low) in
    let is : free front i (n - i) ≡ one_free (is_one front i) + free front (i + 1) m = ap (free front i) next ∙ free_step front i m in
    let more = fewer (is_one front i) (free front (i + 1) m) (steps n k) in
    omega (arith, low, ap (λ f. f * steps n k) is, more)

one_and : (f : ℕ) → 1 + f ≡ suc f
one_and f = omega arith

own_on : (n : ℕ) (front : List ℕ) (i k : ℕ) → i < n → is_one front i ≡ false → own_steps n front (i + 1) (suc k) + steps n k + 1 ≤ own_steps n front i (suc k)
unfolding own_steps
own_on n front i k low none =
    let m : ℕ = n - (i + 1) in
    let next : n - i ≡ suc m = omega (arith, low) in
    let is : free front i (n - i) ≡ suc (free front (i + 1) m) = ap (free front i) next ∙ (free_step front i m ∙ (ap (λ b. one_free b + free front (i + 1) m) none ∙ one_and (free front (i + 1) m))) in
    omega (arith, low, ap (λ f. f * steps n k) is)

times_more : (f g s : ℕ) → f ≤ g → f * s ≤ g * s
times_more zero g s le = omega arith
times_more (suc f) zero s le = absurd (omega (arith, le))
times_more (suc f) (suc g) s le = omega (arith, times_more f g s (omega (arith, le)))

own_first : (n : ℕ) (front : List ℕ) (k : ℕ) → HasRoom n front → n - length front ≡ k → own_steps n front 0 k ≤ steps n k
unfolding own_steps steps
own_first n front zero room is = omega arith
own_first n front (suc k) room is =
    let few : free front 0 n ≤ suc k = omega (arith, room, is) in
    let all : n - 0 ≡ n = omega arith in
    omega (arith, times_more (free front 0 n) (suc k) (steps n k) few, ap (λ m. free front 0 m * steps n k) all)

own_some : (n : ℕ) (front : List ℕ) (next room : ℕ) → 0 < room → 1 ≤ own_steps n front next room
unfolding own_steps
own_some n front next zero some = absurd (omega (arith, some))
own_some n front next (suc k) some = omega arith

-- a step past a number
pub left_past : (n : ℕ) (done is : List ℕ) (i : ℕ) → length done + length is < n → i < n → left n done is (i + 1) + 1 ≤ left n done is i
unfolding left
left_past n done [] i short low = own_past n done i (n - length done) low (omega (arith, short))
left_past n done (x ∷ xs) i short low = omega (arith, left_past n (done ++ x ∷ []) xs i (omega (arith, length-append done (x ∷ []), short)) low)

own_both : (n : ℕ) (front : List ℕ) (i room : ℕ) → i < n → is_one front i ≡ false → HasRoom n front → n - length front ≡ room → 0 < room →
    own_steps n front (i + 1) room + own_steps n (front ++ i ∷ []) 0 (n - length (front ++ i ∷ [])) + 1 ≤ own_steps n front i room
own_both n front i zero low none room is some = absurd (omega (arith, some))
own_both n front i (suc k) low none room is some =
    let more : n - length (front ++ i ∷ []) ≡ k = omega (arith, is, length-append front (i ∷ [])) in
    omega (arith, own_on n front i k low none, own_first n (front ++ i ∷ []) k (room_on n front i low none room) more, ap (own_steps n (front ++ i ∷ []) 0) more)

-- a step on with a number
pub left_on : (n : ℕ) (done is : List ℕ) (i : ℕ) → length done + length is < n → i < n → is_one (done ++ is) i ≡ false → HasRoom n (done ++ is) → left n done (is ++ i ∷ []) 0 + 1 ≤ left n done is i
unfolding left
left_on n done [] i short low none room =
    let same : done ++ [] ≡ done = no_end done in
    own_both n done i (n - length done) low (subst (λ (front : List ℕ). is_one front i ≡ false) same none) (subst (HasRoom n) same room) refl (omega (arith, short))
left_on n done (x ∷ xs) i short low none room =
    let same : done ++ x ∷ xs ≡ (done ++ x ∷ []) ++ xs = sym (joined done xs x) in
    omega (arith, left_on n (done ++ x ∷ []) xs i (omega (arith, length-append done (x ∷ []), short)) low (subst (λ (front : List ℕ). is_one front i ≡ false) same none) (subst (HasRoom n) same room))

-- a step back
pub left_back : (n : ℕ) (done is : List ℕ) (i next : ℕ) → length done + length is + 1 < n → n ≤ next → left n done is (i + 1) + 1 ≤ left n done (is ++ i ∷ []) next
unfolding left
left_back n done [] i next short high =
    omega (arith, own_some n (done ++ i ∷ []) next (n - length (done ++ i ∷ [])) (omega (arith, length-append done (i ∷ []), short)))
left_back n done (x ∷ xs) i next short high = omega (arith, left_back n (done ++ x ∷ []) xs i next (omega (arith, length-append done (x ∷ []), short)) high)

pub left_some : (n : ℕ) (front : List ℕ) (next : ℕ) → 0 < n → 1 ≤ left n [] front next
unfolding left
left_some n [] next some = own_some n [] next (n - 0) (omega (arith, some))
left_some n (x ∷ xs) next some = omega (arith, own_some n [] (x + 1) (n - 0) (omega (arith, some)))

pub left_first : (n : ℕ) → left n [] [] 0 ≤ steps n n
unfolding left
left_first n =
    let all : n ≡ n - 0 = omega arith in
    subst (λ k. own_steps n [] 0 k ≤ steps n n) all (own_first n [] n (room_of_none n) (omega arith))

pub enough : (n : ℕ) → n ≤ 8 → steps n n ≤ 10000000 / (n + 1)
enough n few = le-div (steps n n) 10000000 (n + 1) (omega arith) (few_enough n few)

-- what lacks in a list is none of it
pub none_of_lacking : (front : List ℕ) (i : ℕ) → Lacks front i → is_one front i ≡ false
unfolding is_one
none_of_lacking [] i lacks = refl
none_of_lacking (x ∷ xs) i lacks =
    let own : (x == i) ≡ false = not_same (x == i) (λ same. lacks 0 (omega arith) (eqb-true x i same)) in
    ap (λ b. b || is_one xs i) own ∙ none_of_lacking xs i (λ k lt same. lacks (suc k) (omega (arith, lt)) same)
