-- Verdicts at their places: each number of a round is one that a checker took, or one that is left.
use Rattle.std.proofs.Common.{All, Contains, ◌≡◌, ℕ, zero, suc, ◌+◌, ◌-◌, ◌≤◌, ◌<◌, ◌||◌, nat_lt, Bool, true, false, true≢false, cond, not, List, [], ◌∷◌, ◌++◌, length, map, filter, set, get_or, sym, refl, ap, ◌∙◌, subst, arith}
use Rattle.std.specs.List.{range_with_len}
use Rattle.std.proofs.lemmas.List.{get_or-set_same, get_or-set_other, length-set, map-append}
use Rattle.std.proofs.lemmas.List.Elements.{All-nil, All-head, All-tail, All-append, All-map, All-weaker, All-filter, All-from_get_or, Contains-append_left, Contains-append_right}
use Rattle.std.proofs.lemmas.List.FromFn.{length-map-range_with_len, length-range_with_len, get_or-range_with_len}
use Rattle.std.proofs.Math.Decide.{ℕ_discrete}
use Rattle.pg_pool.specs.declared.checker.Done.{Done}
use Rattle.pg_pool.specs.declared.round.Round.{Round}
use Rattle.pg_pool.specs.declared.numbered_verdict.NumberedVerdict.{NumberedVerdict}
use Rattle.pg_pool.specs.Rounds.{round, IsIn, numbers, visited}
use Rattle.pg_pool.specs.Seats.{Checker, has_taken, is_taken, round_of, untaken, AreOfOneRound, AreAtStart, seat_at_start, part_at_start}
use Rattle.pg_pool.specs.Verdicts.{AreVerdicts, IsTold, numbers_of, placed}
use Rattle.pg_pool.specs.Work.{HasJudged, IsDone, IsFreshIn, all_told}
use Rattle.pg_pool.proofs.Deals.{none_taken}
use Rattle.pg_pool.proofs.Seats.{times_taken-none}

-- a checker tells what is so
abbrev pub Judges : {B V : Type 0} → (ℕ → V → Type 0) → Round → Done B V → Type 0
Judges tells r d = HasJudged tells r d.seat d.told.items

-- at the place of a number stands what is so of it
record StandsAt {V : Type 0} (tells : ℕ → V → Type 0) (r : Round) (verdicts : List V) (n : ℕ) : Type 0 where
  pub at : (d : V) → tells n (get_or verdicts (n - r.first) d)

length-placed : {V : Type 0} (first : ℕ) (old : List V) (more : List (NumberedVerdict V)) → length (placed first old more) ≡ length old
length-placed first old [] = refl
length-placed first old (t ∷ ts) = length-placed first (set old (t.number - first) t.verdict) ts ∙ length-set old (t.number - first) t.verdict

module _ {V : Type 0} (tells : ℕ → V → Type 0) (r : Round) where
  -- one is told more
  puts : (old : List V) (t : NumberedVerdict V) (n : ℕ) → length old ≡ r.last - r.first → IsTold tells r t → t.number ≡ n → StandsAt tells r (set old (t.number - r.first) t.verdict) n
  puts old t n size is same = record {
    at = λ d.
        let there : get_or (set old (t.number - r.first) t.verdict) (n - r.first) d ≡ t.verdict =
        ap (λ (k : ℕ). get_or (set old (t.number - r.first) t.verdict) (k - r.first) d) (sym same)
        ∙ get_or-set_same old (t.number - r.first) t.verdict d (omega (arith, size, is.0.0, is.0.1)) in
        subst (tells n) (sym there) (subst (λ (k : ℕ). tells k t.verdict) same is.1);
  }

  keeps : (old : List V) (t : NumberedVerdict V) (n : ℕ) → length old ≡ r.last - r.first → IsTold tells r t → IsIn r n → StandsAt tells r old n → StandsAt tells r (set old (t.number - r.first) t.verdict) n
  keeps old t n size is within stands = elim (ℕ_discrete n t.number) [
    | yes e ↦ puts old t n size is (sym e)
    | no apart ↦ record {
      at = λ d. subst (tells n) (sym (get_or-set_other old (t.number - r.first) (n - r.first) t.verdict d (λ e. apart (omega (arith, e, is.0.0, within.0))))) (stands.at d);
    }
  ]

  stays : (old : List V) (more : List (NumberedVerdict V)) (n : ℕ) → length old ≡ r.last - r.first → All (IsTold tells r) more → IsIn r n → StandsAt tells r old n → StandsAt tells r (placed r.first old more) n
  stays old [] n size all within stands = stands
  stays old (t ∷ ts) n size all within stands =
      stays (set old (t.number - r.first) t.verdict) ts n (length-set old (t.number - r.first) t.verdict ∙ size) (All-tail (IsTold tells r) t ts all) within
      (keeps old t n size (All-head (IsTold tells r) t ts all) within stands)

  -- what is told stands at its place
  comes : (old : List V) (more : List (NumberedVerdict V)) (n : ℕ) → length old ≡ r.last - r.first → All (IsTold tells r) more → IsIn r n → Contains (numbers_of more) n → StandsAt tells r (placed r.first old more) n
  comes old [] n size all within (k, less, is) = absurd (omega arith)
  comes old (t ∷ ts) n size all within (zero, less, is) =
      stays (set old (t.number - r.first) t.verdict) ts n (length-set old (t.number - r.first) t.verdict ∙ size) (All-tail (IsTold tells r) t ts all) within
      (puts old t n size (All-head (IsTold tells r) t ts all) is)
  comes old (t ∷ ts) n size all within (suc k, less, is) =
      comes (set old (t.number - r.first) t.verdict) ts n (length-set old (t.number - r.first) t.verdict ∙ size) (All-tail (IsTold tells r) t ts all) within (k, omega (arith, less), is)

  -- what was told is of the round
  pub told_within : (first size : ℕ) (told : List (NumberedVerdict V)) → first ≡ r.first → size ≡ r.last - r.first → r.first ≤ r.last → All (IsTold tells r) told → All (λ t. IsIn (round first (first + size)) t.number) told
  told_within first size told low is ordered all =
      All-weaker (IsTold tells r) (λ (t : NumberedVerdict V). IsIn (round first (first + size)) t.number) (λ t so. (omega (arith, low, so.0.0), omega (arith, low, is, ordered, so.0.1))) told all

  all_right : {B : Type 0} (done : List (Done B V)) → All (Judges tells r) done → All (IsTold tells r) (all_told done)
  all_right [] all = All-nil (IsTold tells r)
  all_right (d ∷ ds) all =
      All-append (IsTold tells r) d.told.items (all_told ds) (All-head (Judges tells r) d ds all).right (all_right ds (All-tail (Judges tells r) d ds all))

  -- of a number that was taken something is told
  taken_has : {B : Type 0} (done : List (Done B V)) (n : ℕ) → All (Judges tells r) done → is_taken (map (λ d. d.seat) done) n ≡ true → Contains (numbers_of (all_told done)) n
  taken_has [] n all taken = absurd (true≢false (sym taken))
  taken_has (d ∷ ds) n all taken = subst (λ (l : List ℕ). Contains l n) (sym (map-append (λ (t : NumberedVerdict V). t.number) d.told.items (all_told ds))) (go (has_taken d.seat n) refl (taken_has ds n (All-tail (Judges tells r) d ds all)))
    where
      go : (b : Bool) → has_taken d.seat n ≡ b → (is_taken (map (λ d. d.seat) ds) n ≡ true → Contains (numbers_of (all_told ds)) n) → Contains (numbers_of d.told.items ++ numbers_of (all_told ds)) n
      go true e ih = Contains-append_left (numbers_of d.told.items) (numbers_of (all_told ds)) n ((All-head (Judges tells r) d ds all).whole n e)
      go false e ih =
          Contains-append_right (numbers_of d.told.items) (numbers_of (all_told ds)) n
          (ih (subst (λ (b : Bool). (b || is_taken (map (λ d. d.seat) ds) n) ≡ true) e taken))

contains_next : {A : Type 0} (y : A) (xs : List A) (x : A) → Contains xs x → Contains (y ∷ xs) x
contains_next y xs x (k, less, is) = (suc k, omega (arith, less), is)

contains_range : (n a len : ℕ) → a ≤ n → n < a + len → Contains (range_with_len a len) n
contains_range n a len low high =
    (n - a, omega (arith, low, high, length-range_with_len a len), get_or-range_with_len a len (n - a) n (omega (arith, low, high)) ∙ omega (arith, low))

contains_filter : (p : ℕ → Bool) (xs : List ℕ) (x : ℕ) → p x ≡ true → Contains xs x → Contains (filter p xs) x
contains_filter p [] x passes (k, less, is) = absurd (omega arith)
contains_filter p (y ∷ ys) x passes (zero, less, is) = go (p y) refl
  where
    go : (b : Bool) → p y ≡ b → Contains (cond b (y ∷ filter p ys) (filter p ys)) x
    go true e = (zero, omega arith, is)
    go false e = absurd (true≢false (sym passes ∙ ap p (sym is) ∙ e))
contains_filter p (y ∷ ys) x passes (suc k, less, is) = go (p y) (contains_filter p ys x passes (k, omega (arith, less), is))
  where
    go : (b : Bool) → Contains (filter p ys) x → Contains (cond b (y ∷ filter p ys) (filter p ys)) x
    go true there = contains_next y (filter p ys) x there
    go false there = there

numbers-within : (r : Round) → All (IsIn r) (numbers r)
numbers-within r =
    All-from_get_or (IsIn r) (numbers r) 0
    (λ i less.
    let inside : i < r.last - r.first = omega (arith, less, length-range_with_len r.first (r.last - r.first)) in
    subst (IsIn r) (sym (get_or-range_with_len r.first (r.last - r.first) i 0 inside)) (omega arith, omega (arith, inside)))

-- what is left is of the round
left_within : (r : Round) (seats : List Checker) (left : List ℕ) → round_of seats ≡ r → left ≡ untaken seats → All (IsIn r) left
left_within r seats left of is =
    subst (λ (l : List ℕ). All (IsIn r) l) (sym is)
    (All-filter (λ n. not (is_taken seats n)) (IsIn r) (numbers (round_of seats)) (subst (λ (q : Round). All (IsIn r) (numbers q)) (sym of) (numbers-within r)))

left_has : (r : Round) (seats : List Checker) (n : ℕ) → round_of seats ≡ r → is_taken seats n ≡ false → IsIn r n → Contains (untaken seats) n
left_has r seats n of free within =
    contains_filter (λ m. not (is_taken seats m)) (numbers (round_of seats)) n (ap not free)
    (subst (λ (q : Round). Contains (numbers q) n) (sym of) (contains_range n r.first (r.last - r.first) within.0 (omega (arith, within.0, within.1))))

module _ {B V : Type 0} (tells : ℕ → V → Type 0) (r : Round) where
  round_of_judges : (done : List (Done B V)) → 0 < length done → All (Judges tells r) done → round_of (map (λ d. d.seat) done) ≡ r
  round_of_judges [] some all = absurd (omega arith)
  round_of_judges (d ∷ ds) some all = (All-head (Judges tells r) d ds all).round

  pub judged_within : (done : List (Done B V)) (seats : List Checker) (left : List ℕ) → 0 < length done → All (Judges tells r) done → seats ≡ map (λ d. d.seat) done → left ≡ untaken seats → All (IsIn r) left
  judged_within done seats left some all of is = left_within r seats left (ap round_of of ∙ round_of_judges done some all) is

  pub one_round : (done : List (Done B V)) → 0 < length done → All (Judges tells r) done → AreOfOneRound (map (λ d. d.seat) done)
  one_round done some all =
      let first = round_of_judges done some all in
      let P : Checker → Type 0 = λ s. s.round ≡ round_of (map (λ d. d.seat) done) in
      All-map P (λ (d : Done B V). d.seat) done (All-weaker (Judges tells r) (λ (d : Done B V). P d.seat) (λ d is. is.round ∙ sym first) done all)

  pub done_within : (first size : ℕ) (done : List (Done B V)) → first ≡ r.first → size ≡ r.last - r.first → r.first ≤ r.last → All (Judges tells r) done →
      All (λ d. All (λ t. IsIn (round first (first + size)) t.number) d.told.items) done
  done_within first size done low is ordered all =
      All-weaker (Judges tells r) (λ (d : Done B V). All (λ t. IsIn (round first (first + size)) t.number) d.told.items)
      (λ d judged. told_within tells r first size d.told.items low is ordered judged.right) done all

  -- what is done was judged
  pub judged_by : (keeps : B → Type 0) (done : List (Done B V)) → All (IsDone keeps tells r) done → All (Judges tells r) done
  judged_by keeps done all = All-weaker (IsDone keeps tells r) (Judges tells r) (λ d is. is.judged) done all

  -- and all keep what they should
  pub kept_by : (keeps : B → Type 0) (done : List (Done B V)) → All (IsDone keeps tells r) done → All keeps (map (λ d. d.state) done)
  kept_by keeps done all = All-map keeps (λ (d : Done B V). d.state) done (All-weaker (IsDone keeps tells r) (λ (d : Done B V). keeps d.state) (λ d is. is.kept) done all)

  -- once what the checkers told and what was told of the numbers left is at its place, all is
  pub gathered : (done here : List (Done B V)) (seats : List Checker) (old mid new : List V) (left there : List ℕ) (rest last : List (NumberedVerdict V)) → 0 < length done → All (Judges tells r) done → length old ≡ r.last - r.first
      → here ≡ done → mid ≡ placed r.first old (all_told here) → seats ≡ map (λ d. d.seat) done → left ≡ untaken seats → there ≡ left → numbers_of rest ≡ there → All (IsTold tells r) rest → last ≡ rest → new ≡ placed r.first mid last
      → AreVerdicts tells r new
  gathered done here seats old mid new left there rest last some all size same first of is there_is numbers right last_is second =
      subst (λ (l : List V). AreVerdicts tells r l) (sym whole) (record { len = length-placed r.first old_mid rest ∙ mid_size; each = λ n d within. (stands n within).at d })
    where
      old_mid : List V
      old_mid = placed r.first old (all_told done)

      mid_size : length old_mid ≡ r.last - r.first
      mid_size = length-placed r.first old (all_told done) ∙ size

      mid_is : mid ≡ old_mid
      mid_is = first ∙ ap (λ (l : List (Done B V)). placed r.first old (all_told l)) same

      whole : new ≡ placed r.first old_mid rest
      whole = second ∙ (λ i. placed r.first (mid_is i) (last_is i))

      of_round : round_of seats ≡ r
      of_round = ap round_of of ∙ round_of_judges done some all

      left_is : numbers_of rest ≡ untaken seats
      left_is = numbers ∙ there_is ∙ is

      either : (b : Bool) (P : Type 0) → (b ≡ true → P) → (b ≡ false → P) → P
      either true P yes_true yes_false = yes_true refl
      either false P yes_true yes_false = yes_false refl

      stands : (n : ℕ) → IsIn r n → StandsAt tells r (placed r.first old_mid rest) n
      stands n within = either (is_taken seats n) (StandsAt tells r (placed r.first old_mid rest) n)
          (λ taken. stays tells r old_mid rest n mid_size right within
          (comes tells r old (all_told done) n size (all_right tells r done all) within (taken_has tells r done n all (subst (λ (l : List Checker). is_taken l n ≡ true) of taken))))
          (λ free. comes tells r old_mid rest n mid_size right within (subst (λ (l : List ℕ). Contains l n) (sym left_is) (left_has r seats n of_round free within)))

-- no seat has taken anything at the start
pub all_fresh : (r : Round) (size checkers : ℕ) (seats : List Checker) → AreAtStart r size checkers seats → All (IsFreshIn r) seats
all_fresh r size checkers seats (deques, is) =
    subst (λ (l : List Checker). All (IsFreshIn r) l) (sym is)
    (All-map (IsFreshIn r) (seat_at_start deques r size checkers) (range_with_len 0 checkers) (λ k d less. fresh (get_or (range_with_len 0 checkers) k d)))
  where
    fresh : (c : ℕ) → IsFreshIn r (seat_at_start deques r size checkers c)
    fresh c = (refl, λ n. ap (nat_lt 0) (times_taken-none n (map (part_at_start deques r size checkers) (visited checkers c)) (none_taken deques r size checkers (visited checkers c))))

-- and there is one for each checker
pub all_seats : (r : Round) (size checkers : ℕ) (seats : List Checker) → AreAtStart r size checkers seats → length seats ≡ checkers
all_seats r size checkers seats (deques, is) = ap (λ (l : List Checker). length l) is ∙ length-map-range_with_len (seat_at_start deques r size checkers) 0 checkers
