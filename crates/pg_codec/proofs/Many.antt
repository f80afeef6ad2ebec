-- Reading parts one after the other, as a loop does.
use Rattle.std.proofs.Common.{◌≡◌, ℕ, suc, ◌-◌, ◌+◌, ◌≤◌, ◌<◌, List, [], ◌∷◌, ◌++◌, Ok, Err, refl, sym, ap, ◌∙◌, append_assoc, arith, zero, ◌*◌, ltb, true, false, length, drop, length-drop, inl, inr}
use Rattle.std.proofs.lemmas.List.{append-nil}
use Rattle.std.specs.Int.{w32}
use Rattle.std.proofs.lemmas.Bool.{cases_lt, lt-ltb, le-ltb}
use Rattle.pg_event.specs.declared.refusal.Refusal.{Refusal}
use Rattle.pg_event.specs.Heads.{Head}
use Rattle.pg_event.specs.declared.refusal.Refusal.TheVariants as refusals
use Rattle.pg_event.specs.Reading.{◌>>=◌, Part, number_at, numbers_at, start_at, starts_at, event_at, events_at}
use Rattle.pg_codec.specs.Parts.{with_front}

at_start : {A : Type 0} (part : Part (List A)) → with_front [] part ≡ part
at_start (Ok x) = refl
at_start (Err e) = refl

-- one reads the part at a place; many reads so many from a place on
pub record IsMany {A : Type 0} (one : ℕ → List ℕ → Part A) (many : ℕ → ℕ → List ℕ → Part (List A)) : Type 0 where
  pub none : (k : ℕ) (bytes : List ℕ) → many k 0 bytes ≡ Ok ([], bytes)
  pub more : (k n : ℕ) (bytes : List ℕ) → many k (suc n) bytes ≡ (one k bytes >>= λ first. many (k + 1) n first.1 >>= λ others. Ok (first.0 ∷ others.0, others.1))

regroup : {A : Type 0} (front : List A) (x : A) (part : Part (List A)) → with_front front (part >>= λ y. Ok (x ∷ y.0, y.1)) ≡ with_front (front ++ x ∷ []) part
regroup front x (Ok y) = ap (λ xs. Ok (xs, y.1)) (sym (append_assoc front (x ∷ []) y.0))
regroup front x (Err e) = refl

module _ {A : Type 0} (one : ℕ → List ℕ → Part A) (many : ℕ → ℕ → List ℕ → Part (List A)) (is : IsMany one many) where
  pub begins : (base count : ℕ) (bytes : List ℕ) → with_front [] (many (base + 0) (count - 0) bytes) ≡ many base count bytes
  begins base count bytes =
      let place : base + 0 ≡ base = omega arith in
      let all : count - 0 ≡ count = omega arith in
      at_start (many (base + 0) (count - 0) bytes) ∙ ap (λ p. many p (count - 0) bytes) place ∙ ap (λ n. many base n bytes) all

  pub goes_on : (front : List A) (base count i : ℕ) (bytes : List ℕ) (x : A) (after : List ℕ) (total : Part (List A)) → i < count → one (base + i) bytes ≡ Ok (x, after)
      → with_front front (many (base + i) (count - i) bytes) ≡ total → with_front (front ++ x ∷ []) (many (base + (i + 1)) (count - (i + 1)) after) ≡ total
  goes_on front base count i bytes x after total lt h so_far =
      let k : count - i ≡ suc (count - (i + 1)) = omega arith in
      let place : base + i + 1 ≡ base + (i + 1) = omega arith in
      let step : with_front front (many (base + i) (count - i) bytes) ≡ with_front (front ++ x ∷ []) (many (base + (i + 1)) (count - (i + 1)) after) =
      ap (λ n. with_front front (many (base + i) n bytes)) k ∙ ap (with_front front) (is.more (base + i) (count - (i + 1)) bytes)
      ∙ ap (λ r. with_front front (r >>= λ first. many (base + i + 1) (count - (i + 1)) first.1 >>= λ others. Ok (first.0 ∷ others.0, others.1))) h
      ∙ regroup front x (many (base + i + 1) (count - (i + 1)) after) ∙ ap (λ p. with_front (front ++ x ∷ []) (many p (count - (i + 1)) after)) place in
      sym step ∙ so_far

  pub ends : (front : List A) (base count i : ℕ) (bytes : List ℕ) (e : Refusal) (total : Part (List A)) → i < count → one (base + i) bytes ≡ Err e
      → with_front front (many (base + i) (count - i) bytes) ≡ total → total ≡ Err e
  ends front base count i bytes e total lt h so_far =
      let k : count - i ≡ suc (count - (i + 1)) = omega arith in
      sym so_far ∙ ap (λ n. with_front front (many (base + i) n bytes)) k ∙ ap (with_front front) (is.more (base + i) (count - (i + 1)) bytes)
      ∙ ap (λ r. with_front front (r >>= λ first. many (base + i + 1) (count - (i + 1)) first.1 >>= λ others. Ok (first.0 ∷ others.0, others.1))) h

  pub is_done : (front : List A) (base count i : ℕ) (bytes : List ℕ) (total : Part (List A)) → count ≤ i → with_front front (many (base + i) (count - i) bytes) ≡ total → total ≡ Ok (front, bytes)
  is_done front base count i bytes total le so_far =
      let k : count - i ≡ 0 = omega arith in
      sym so_far ∙ ap (λ n. with_front front (many (base + i) n bytes)) k ∙ ap (with_front front) (is.none (base + i) bytes)
      ∙ ap (λ xs. Ok (xs, bytes)) (append-nil front)

pub numbers_are_many : IsMany (λ k bytes. number_at w32 bytes) (λ k n bytes. numbers_at n bytes)
unfolding numbers_at
numbers_are_many = record { none = λ k bytes. refl; more = λ k n bytes. refl }

pub starts_are_many : (m : ℕ) → IsMany (λ k bytes. start_at m bytes) (λ k n bytes. starts_at m n bytes)
unfolding starts_at
starts_are_many m = record { none = λ k bytes. refl; more = λ k n bytes. refl }

pub events_are_many : (head : Head) → IsMany (event_at head) (events_at head)
unfolding events_at
events_are_many head = record { none = λ k bytes. refl; more = λ k n bytes. refl }

behind : (front : List ℕ) (n : ℕ) (first : Part ℕ) → with_front front (first >>= λ x. numbers_at n x.1 >>= λ others. Ok (x.0 ∷ others.0, others.1))
    ≡ (first >>= λ x. with_front (front ++ x.0 ∷ []) (numbers_at n x.1))
behind front n (Ok x) = regroup front x.0 (numbers_at n x.1)
behind front n (Err e) = refl

-- numbers after a front are one, and then the others after that
pub one_by_one : (front : List ℕ) (n : ℕ) (bytes : List ℕ) → with_front front (numbers_at (suc n) bytes) ≡ (number_at w32 bytes >>= λ x. with_front (front ++ x.0 ∷ []) (numbers_at n x.1))
unfolding numbers_at
one_by_one front n bytes = behind front n (number_at w32 bytes)

pub then_others : (front : List ℕ) (n : ℕ) (bytes : List ℕ) (x : ℕ) (rest : List ℕ) → number_at w32 bytes ≡ Ok (x, rest) → with_front front (numbers_at (suc n) bytes) ≡ with_front (front ++ x ∷ []) (numbers_at n rest)
then_others front n bytes x rest h = one_by_one front n bytes ∙ ap (λ r. r >>= λ y. with_front (front ++ y.0 ∷ []) (numbers_at n y.1)) h

pub first_refused : (front : List ℕ) (n : ℕ) (bytes : List ℕ) (e : Refusal) → number_at w32 bytes ≡ Err e → with_front front (numbers_at (suc n) bytes) ≡ Err e
first_refused front n bytes e h = one_by_one front n bytes ∙ ap (λ r. r >>= λ y. with_front (front ++ y.0 ∷ []) (numbers_at n y.1)) h

pub no_more : (front : List ℕ) (bytes : List ℕ) → with_front front (numbers_at 0 bytes) ≡ Ok (front, bytes)
unfolding numbers_at
no_more front bytes = ap (λ xs. Ok (xs, bytes)) (append-nil front)

-- numbers that are cut
pub cut : (n : ℕ) (bytes : List ℕ) → length bytes < 4 * n → numbers_at n bytes ≡ Err refusals.Truncated
unfolding numbers_at
cut zero bytes h = absurd (omega arith)
cut (suc n) bytes h =
    elim (cases_lt (length bytes) 4) [
      | inl lt ↦ let short : ltb (length bytes) 4 ≡ true = lt-ltb _ _ lt in rw short refl
      | inr le ↦ let enough : ltb (length bytes) 4 ≡ false = le-ltb _ _ le in rw (enough, cut n (drop 4 bytes) (omega (arith, length-drop 4 bytes))) refl
    ]
