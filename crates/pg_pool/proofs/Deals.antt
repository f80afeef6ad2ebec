-- Each number of a round is dealt once, and who is seated while the ways are laid.
use Rattle.std.proofs.Common.{All, ◌≡◌, ◌≢◌, ◌⊎◌, inl, inr, ⊎_elim, ℕ, zero, suc, ◌+◌, ◌-◌, ◌/◌, ◌%◌, ◌≤◌, ◌<◌, ◌==◌, Bool, true, false, true≢false, cond, if◌then◌else◌, List, [], ◌∷◌, ◌++◌, length, set, map, filter, get_or, sym, refl, ap, ◌∙◌, subst, arith, append-nil}
use Rattle.std.specs.List.{range_with_len}
use Rattle.std.proofs.lemmas.Bool.Decides.{nat_tests}
use Rattle.std.proofs.lemmas.List.{get_or-set_same, get_or-set_other, length-set, map-append, set-get_or, get_or_read}
use Rattle.std.proofs.lemmas.List.Elements.{filter-append, All-nil, All-cons}
use Rattle.std.proofs.lemmas.List.FromFn.{map-range_with_len_more, get_or-map-range_with_len, length-map-range_with_len, fill_by_all}
use Rattle.std.proofs.lemmas.List.Sums.{sum_by-cons}
use Rattle.std.proofs.Math.Decide.{ℕ_discrete}
use Rattle.pg_pool.specs.declared.round.Round.{Round}
use Rattle.pg_pool.specs.Rounds.{round, IsIn, numbers, dealt, others, visited}
use Rattle.pg_pool.specs.declared.deque_view.DequeView.{DequeView}
use Rattle.pg_pool.specs.DequeRule.{times, deque_view, Pushed}
use Rattle.pg_pool.specs.Seats.{DequeId, Deques, Part, Checker, untouched, way_to_part, part_at, times_pushed, IsDeal, part_at_start, seat_at_start, seats_at_start, lone_seat, nobody, seat_of, way_to}
use Rattle.pg_pool.proofs.Times.{times-append, times-same, same_test, other_test}

-- one number more

range_after : (a n : ℕ) → range_with_len a (suc n) ≡ range_with_len a n ++ (a + n) ∷ []
range_after a zero = ap (λ (k : ℕ). k ∷ []) (omega arith)
range_after a (suc n) = ap (λ (l : List ℕ). a ∷ l) (range_after (a + 1) n ∙ ap (λ (k : ℕ). range_with_len (a + 1) n ++ k ∷ []) (omega arith))

numbers-more : (a n : ℕ) → a ≤ n → numbers (round a (n + 1)) ≡ numbers (round a n) ++ n ∷ []
numbers-more a n h =
    let e : n + 1 - a ≡ suc (n - a) = omega (arith, h) in
    ap (range_with_len a) e ∙ range_after a (n - a) ∙ ap (λ (k : ℕ). range_with_len a (n - a) ++ k ∷ []) (omega (arith, h))

pub kept_more : (p : ℕ → Bool) (a n : ℕ) → a ≤ n → p n ≡ true → filter p (numbers (round a (n + 1))) ≡ filter p (numbers (round a n)) ++ n ∷ []
kept_more p a n h is =
    ap (filter p) (numbers-more a n h) ∙ filter-append p (numbers (round a n)) (n ∷ []) ∙ ap (λ (b : Bool). filter p (numbers (round a n)) ++ cond b (n ∷ []) []) is

pub left_more : (p : ℕ → Bool) (a n : ℕ) → a ≤ n → p n ≡ false → filter p (numbers (round a (n + 1))) ≡ filter p (numbers (round a n))
left_more p a n h is =
    ap (filter p) (numbers-more a n h) ∙ filter-append p (numbers (round a n)) (n ∷ []) ∙ ap (λ (b : Bool). filter p (numbers (round a n)) ++ cond b (n ∷ []) []) is ∙ append-nil _

pub dealt_kept : (a n size checkers c : ℕ) (old new : DequeView) → a ≤ n → ((n - a) / size) % checkers ≡ c → old ≡ deque_view true (dealt (round a n) size checkers c) []
    → Pushed old (n ∷ []) new → new ≡ deque_view true (dealt (round a (n + 1)) size checkers c) []
dealt_kept a n size checkers c old new h own was pushed =
    pushed ∙ ap (λ (u : DequeView). deque_view u.alone (u.pushed ++ n ∷ []) u.taken) was
    ∙ ap (λ (l : List ℕ). deque_view true l []) (sym (kept_more (λ x. ((x - a) / size) % checkers == c) a n h (same_test _ _ own)))

pub dealt_left : (a n size checkers c : ℕ) → a ≤ n → (((n - a) / size) % checkers ≡ c → ⊥) → deque_view true (dealt (round a n) size checkers c) [] ≡ deque_view true (dealt (round a (n + 1)) size checkers c) []
dealt_left a n size checkers c h other = ap (λ (l : List ℕ). deque_view true l []) (sym (left_more (λ x. ((x - a) / size) % checkers == c) a n h (other_test _ _ other)))

-- how often a number was dealt

abbrev one_at : ℕ → ℕ → ℕ
one_at n x = if x == n then 1 else 0

one_is : (n x : ℕ) → ((x ≡ n) × (one_at n x ≡ 1)) ⊎ ((x ≢ n) × (one_at n x ≡ 0))
one_is n x = grind (arith, nat_tests)

times-cons : (n x : ℕ) (xs : List ℕ) → times n (x ∷ xs) ≡ one_at n x + times n xs
times-cons n x xs = sum_by-cons _ x xs

zero_if : (t : ℕ) → (0 < t → ⊥) → t ≡ 0
zero_if zero h = refl
zero_if (suc t) h = absurd (h (omega arith))

zero_or : (t : ℕ) → (t ≡ 0) ⊎ (0 < t)
zero_or zero = inl refl
zero_or (suc t) = inr (omega arith)

times-range : (n a len : ℕ) → (times n (range_with_len a len) ≤ 1) × (0 < times n (range_with_len a len) → (a ≤ n) × (n < a + len))
times-range n a zero = (omega arith, λ h. absurd (omega arith))
times-range n a (suc len) =
    let ih = times-range n (a + 1) len in
    let c = times-cons n a (range_with_len (a + 1) len) in
    ⊎_elim
    (λ (t : (a ≡ n) × (one_at n a ≡ 1)).
    let none : times n (range_with_len (a + 1) len) ≡ 0 = zero_if _ (λ h. let within = ih.1 h in omega (arith, within.0, t.0)) in
    (omega (arith, c, t.1, none), λ h. (omega (arith, t.0), omega (arith, t.0))))
    (λ (t : (a ≢ n) × (one_at n a ≡ 0)). (
      omega (arith, c, t.1, ih.0),
      λ h.
          let some : 0 < times n (range_with_len (a + 1) len) = omega (arith, c, t.1, h) in
          let within = ih.1 some in
          (omega (arith, within.0), omega (arith, within.1)),
    ))
    (one_is n a)

filter_le : (p : ℕ → Bool) (n : ℕ) (xs : List ℕ) → times n (filter p xs) ≤ times n xs
filter_le p n [] = omega arith
filter_le p n (x ∷ xs) = go (p x) (filter_le p n xs)
  where
    go : (b : Bool) → times n (filter p xs) ≤ times n xs → times n (cond b (x ∷ filter p xs) (filter p xs)) ≤ times n (x ∷ xs)
    go true ih = omega (arith, times-cons n x (filter p xs), times-cons n x xs, ih)
    go false ih = omega (arith, times-cons n x xs, ih)

filter_none : (p : ℕ → Bool) (n : ℕ) → p n ≡ false → (xs : List ℕ) → times n (filter p xs) ≡ 0
filter_none p n fails [] = refl
filter_none p n fails (x ∷ xs) = go (p x) refl (filter_none p n fails xs)
  where
    go : (b : Bool) → p x ≡ b → times n (filter p xs) ≡ 0 → times n (cond b (x ∷ filter p xs) (filter p xs)) ≡ 0
    go true e ih =
        ⊎_elim (λ (t : (x ≡ n) × (one_at n x ≡ 1)). absurd (true≢false (sym e ∙ ap p t.0 ∙ fails)))
        (λ (t : (x ≢ n) × (one_at n x ≡ 0)). omega (arith, times-cons n x (filter p xs), t.1, ih)) (one_is n x)
    go false e ih = ih

module _ (r : Round) (size checkers n : ℕ) where
  owner : ℕ
  owner = ((n - r.first) / size) % checkers

  dealt-once : (c : ℕ) → times n (dealt r size checkers c) ≤ times owner (c ∷ [])
  unfolding owner
  dealt-once c =
      let p : ℕ → Bool = λ x. ((x - r.first) / size) % checkers == c in
      elim (ℕ_discrete owner c) [
        | yes e ↦
            omega (arith, filter_le p n (numbers r), (times-range n r.first (r.last - r.first)).0, ap (λ (k : ℕ). times k (c ∷ [])) e, times-same c)
        | no apart ↦ omega (arith, filter_none p n (other_test owner c apart) (numbers r))
      ]

  dealt-within : (c : ℕ) → 0 < times n (dealt r size checkers c) → IsIn r n
  dealt-within c some =
      let p : ℕ → Bool = λ x. ((x - r.first) / size) % checkers == c in
      let within = (times-range n r.first (r.last - r.first)).1 (omega (arith, some, filter_le p n (numbers r))) in
      (within.0, omega (arith, within.0, within.1))

  pushed-once : (deques : Deques) (cs : List ℕ) → times_pushed n (map (part_at_start deques r size checkers) cs) ≤ times owner cs
  pushed-once deques [] = omega arith
  pushed-once deques (c ∷ cs) =
      omega (arith, sum_by-cons (λ (d : Part). times n d.pushed) (part_at_start deques r size checkers c) (map (part_at_start deques r size checkers) cs), dealt-once c, times-append owner (c ∷ []) cs, pushed-once deques cs)

  pushed-within : (deques : Deques) (cs : List ℕ) → 0 < times_pushed n (map (part_at_start deques r size checkers) cs) → IsIn r n
  pushed-within deques [] some = absurd (omega arith)
  pushed-within deques (c ∷ cs) some =
      ⊎_elim (λ here. dealt-within c here) (λ there. pushed-within deques cs there)
      (either_part _ _ (subst (λ (k : ℕ). 0 < k) (sum_by-cons (λ (d : Part). times n d.pushed) (part_at_start deques r size checkers c) (map (part_at_start deques r size checkers) cs)) some))
    where
      either_part : (a b : ℕ) → 0 < a + b → (0 < a) ⊎ (0 < b)
      either_part zero b h = inr (omega arith)
      either_part (suc a) b h = inl (omega arith)

-- different checkers own different numbers
deal_of : (deques : Deques) (r : Round) (size checkers : ℕ) (cs : List ℕ) → ((m : ℕ) → times m cs ≤ 1) → IsDeal r (map (part_at_start deques r size checkers) cs)
deal_of deques r size checkers cs apart = record {
  within = λ n some. pushed-within r size checkers n deques cs some;
  once = λ n. omega (arith, pushed-once r size checkers n deques cs, apart (owner r size checkers n));
}

visited-apart : (checkers c m : ℕ) → times m (visited checkers c) ≤ 1
visited-apart checkers c m =
    let above = range_with_len (c + 1) (checkers - (c + 1)) in
    let below = range_with_len 0 c in
    let a = times-range m (c + 1) (checkers - (c + 1)) in
    let b = times-range m 0 c in
    let self = times-cons m c (others checkers c) in
    let both = times-append m above below in
    ⊎_elim
    (λ (t : (c ≡ m) × (one_at m c ≡ 1)).
    let no_above : times m above ≡ 0 = zero_if _ (λ h. let w = a.1 h in omega (arith, w.0, t.0)) in
    let no_below : times m below ≡ 0 = zero_if _ (λ h. let w = b.1 h in omega (arith, w.1, t.0)) in
    omega (arith, t.1, no_above, no_below, self, both))
    (λ (t : (c ≢ m) × (one_at m c ≡ 0)).
    ⊎_elim (λ (none : times m below ≡ 0). omega (arith, t.1, a.0, none, self, both))
    (λ (some : 0 < times m below).
    let is_below = b.1 some in
    let no_above : times m above ≡ 0 = zero_if _ (λ h. let w = a.1 h in omega (arith, w.0, is_below.1)) in
    omega (arith, t.1, b.0, no_above, self, both))
    (zero_or (times m below)))
    (one_is m c)

pub lone_deal : (deques : Deques) (r : Round) (size checkers c : ℕ) → IsDeal r (part_at_start deques r size checkers c ∷ [])
lone_deal deques r size checkers c = deal_of deques r size checkers (c ∷ []) (λ m. ⊎_elim (λ (t : (c ≡ m) × (one_at m c ≡ 1)). omega (arith, t.1, times-cons m c [])) (λ (t : (c ≢ m) × (one_at m c ≡ 0)). omega (arith, t.1, times-cons m c [])) (one_is m c))

pub seat_deal : (deques : Deques) (r : Round) (size checkers c : ℕ) → IsDeal r (map (part_at_start deques r size checkers) (visited checkers c))
seat_deal deques r size checkers c = deal_of deques r size checkers (visited checkers c) (visited-apart checkers c)

pub none_taken : (deques : Deques) (r : Round) (size checkers : ℕ) (cs : List ℕ) → All (λ d. d.taken ≡ []) (map (part_at_start deques r size checkers) cs)
none_taken deques r size checkers [] = All-nil (λ (d : Part). d.taken ≡ [])
none_taken deques r size checkers (c ∷ cs) =
    All-cons (λ (d : Part). d.taken ≡ []) (part_at_start deques r size checkers c) (map (part_at_start deques r size checkers) cs) refl (none_taken deques r size checkers cs)

-- seats alone with their deques, once one more has come
with_deque : Deques → ℕ → DequeId → Deques
with_deque deques number id = λ c. if c == number then id else deques c

other_deque : (deques : Deques) (number c : ℕ) (id : DequeId) → c ≢ number → with_deque deques number id c ≡ deques c
unfolding with_deque
other_deque deques number c id apart = ap (λ (b : Bool). cond b id (deques c)) (other_test c number apart)

this_deque : (deques : Deques) (number : ℕ) (id : DequeId) → with_deque deques number id number ≡ id
unfolding with_deque
this_deque deques number id = ap (λ (b : Bool). cond b id (deques number)) (same_test number number refl)

lone-others : (deques : Deques) (r : Round) (size checkers number : ℕ) (id : DequeId) (len a : ℕ) → a + len ≤ number →
    map (lone_seat deques r size checkers) (range_with_len a len) ≡ map (lone_seat (with_deque deques number id) r size checkers) (range_with_len a len)
lone-others deques r size checkers number id zero a h = refl
lone-others deques r size checkers number id (suc len) a h =
    let e : deques a ≡ with_deque deques number id a = sym (other_deque deques number a id (λ e. absurd (omega arith))) in
    let here : lone_seat deques r size checkers a ≡ lone_seat (with_deque deques number id) r size checkers a =
    ap (λ (d : DequeId). record { number = a; round = r; parts = untouched d (dealt r size checkers a) ∷ [] }) e in
    λ i. here i ∷ lone-others deques r size checkers number id len (a + 1) (omega (arith, h)) i

-- seats alone with their deques
abbrev pub Lone : Round → ℕ → ℕ → ℕ → List Checker → Type 0
Lone r size checkers count seats = (deques : Deques) × (seats ≡ map (lone_seat deques r size checkers) (range_with_len 0 count))

pub Lone-more : (r : Round) (size checkers number : ℕ) (id : DequeId) (old new : List Checker) (seat : Checker) → Lone r size checkers number old
    → seat ≡ record { number = number; round = r; parts = untouched id (dealt r size checkers number) ∷ [] } → new ≡ old ++ seat ∷ [] → Lone r size checkers (number + 1) new
Lone-more r size checkers number id old new seat (deques, is) seat-is pushed =
    let more = with_deque deques number id in
    let same : seat ≡ lone_seat more r size checkers number =
    seat-is ∙ ap (λ (d : DequeId). record { number = number; round = r; parts = untouched d (dealt r size checkers number) ∷ [] }) (sym (this_deque deques number id)) in (
      more,
      pushed
          ∙ (λ i. (is ∙ lone-others deques r size checkers number id number 0 (omega arith)) i ++ same i ∷ [])
          ∙ sym (map-range_with_len_more (lone_seat more r size checkers) 0 number number (omega arith)),
    )

-- the seats below a place have all their ways, and the others have none
pub record Seated (deques : Deques) (r : Round) (size checkers place : ℕ) (seats : List Checker) : Type 0 where
  pub count : length seats ≡ checkers
  pub joined : (j : ℕ) → j < place → j < checkers → seat_of seats j ≡ seat_at_start deques r size checkers j
  pub lone : (j : ℕ) → place ≤ j → j < checkers → seat_of seats j ≡ lone_seat deques r size checkers j

pub Seated-start : (deques : Deques) (r : Round) (size checkers : ℕ) (seats : List Checker) → seats ≡ map (lone_seat deques r size checkers) (range_with_len 0 checkers) → Seated deques r size checkers 0 seats
Seated-start deques r size checkers seats is = record {
  count = ap length is ∙ length-map-range_with_len (lone_seat deques r size checkers) 0 checkers;
  joined = λ j below inside. absurd (omega arith);
  lone = λ j from inside. ap (λ (l : List Checker). seat_of l j) is ∙ get_or-map-range_with_len (lone_seat deques r size checkers) 0 checkers j j nobody inside (omega arith);
}

Seated-way : (deques : Deques) (r : Round) (size checkers place : ℕ) (seats : List Checker) → Seated deques r size checkers place seats → (j : ℕ) → j < checkers → way_to seats j ≡ part_at_start deques r size checkers j
Seated-way deques r size checkers place seats s j inside = go (ltb_cases j place)
  where
    ltb_cases : (a b : ℕ) → (a < b) ⊎ (b ≤ a)
    ltb_cases a b = grind arith

    go : (j < place) ⊎ (place ≤ j) → way_to seats j ≡ part_at_start deques r size checkers j
    go (inl below) = ap (λ (c : Checker). way_to_part (part_at c.parts 0)) (s.joined j below inside)
    go (inr from) = ap (λ (c : Checker). way_to_part (part_at c.parts 0)) (s.lone j from inside)

ways-range : (deques : Deques) (r : Round) (size checkers place : ℕ) (seats : List Checker) → Seated deques r size checkers place seats → (len a : ℕ) → a + len ≤ checkers → map (way_to seats) (range_with_len a len) ≡ map (part_at_start deques r size checkers) (range_with_len a len)
ways-range deques r size checkers place seats s zero a h = refl
ways-range deques r size checkers place seats s (suc len) a h =
    λ i. Seated-way deques r size checkers place seats s a (omega (arith, h)) i ∷ ways-range deques r size checkers place seats s len (a + 1) (omega (arith, h)) i

pub Seated-ways : (deques : Deques) (r : Round) (size checkers place count : ℕ) (seats : List Checker) (ways : List Part) → Seated deques r size checkers place seats → place < checkers → count ≡ checkers
    → ways ≡ map (way_to seats) (others count place) → ways ≡ map (part_at_start deques r size checkers) (others checkers place)
Seated-ways deques r size checkers place count seats ways s inside same is =
    let above = range_with_len (place + 1) (checkers - (place + 1)) in
    let below = range_with_len 0 place in
    is
    ∙ ap (λ (n : ℕ). map (way_to seats) (others n place)) same
    ∙ map-append (way_to seats) above below
    ∙ (λ i. ways-range deques r size checkers place seats s (checkers - (place + 1)) (place + 1) (omega (arith, inside)) i ++ ways-range deques r size checkers place seats s place 0 (omega (arith, inside)) i)
    ∙ sym (map-append (part_at_start deques r size checkers) above below)

-- the seat at the place, as it is read from the same seats
pub Seated-here : (deques : Deques) (r : Round) (size checkers place : ℕ) (seats same : List Checker) (seat : Checker) → Seated deques r size checkers place seats → place < checkers → same ≡ seats → seat ≡ get_or same place seat → seat ≡ lone_seat deques r size checkers place
Seated-here deques r size checkers place seats same seat s inside is read =
    get_or_read same place seat (omega (arith, inside, s.count, ap (λ (l : List Checker). length l) is)) read nobody
    ∙ ap (λ (l : List Checker). seat_of l place) is
    ∙ s.lone place (omega arith) inside

pub Seated-more : (deques : Deques) (r : Round) (size checkers place : ℕ) (seats : List Checker) → Seated deques r size checkers place seats → place < checkers → Seated deques r size checkers (place + 1) (set seats place (seat_at_start deques r size checkers place))
Seated-more deques r size checkers place seats s inside =
    let new : Checker = seat_at_start deques r size checkers place in record {
      count = length-set seats place new ∙ s.count;
      joined = λ j below within. elim (ℕ_discrete j place) [
        | yes e ↦ ap (seat_of (set seats place new)) e ∙ get_or-set_same seats place new nobody (omega (arith, inside, s.count)) ∙ ap (seat_at_start deques r size checkers) (sym e)
        | no apart ↦ get_or-set_other seats place j new nobody apart ∙ s.joined j (omega (arith, below, apart)) within
      ];
      lone = λ j from within. get_or-set_other seats place j new nobody (λ e. absurd (omega (arith, e, from))) ∙ s.lone j (omega (arith, from)) within;
    }

pub Seated-all : (deques : Deques) (r : Round) (size checkers : ℕ) (seats : List Checker) → Seated deques r size checkers checkers seats → seats ≡ seats_at_start deques r size checkers
Seated-all deques r size checkers seats s = fill_by_all (seat_at_start deques r size checkers) seats checkers nobody s.count (λ k below. s.joined k below below)

pub set-same : (seats : List Checker) (k : ℕ) (old new : Checker) → old ≡ get_or seats k old → new ≡ old → set seats k new ≡ seats
set-same seats k old new read same = ap (set seats k) (same ∙ read) ∙ set-get_or seats k old

-- the seats once one more has its ways
pub Seated-next : (deques : Deques) (r : Round) (size checkers place : ℕ) (seats same : List Checker) (seat new : Checker) (ways : List Part) → Seated deques r size checkers place seats → place < checkers → same ≡ seats
    → seat ≡ lone_seat deques r size checkers place → ways ≡ map (part_at_start deques r size checkers) (others checkers place) → new ≡ record seat { parts = seat.parts ++ ways } → Seated deques r size checkers (place + 1) (set same place new)
Seated-next deques r size checkers place seats same seat new ways s inside is lone to joined =
    let full : new ≡ seat_at_start deques r size checkers place =
    joined ∙ ap (λ (c : Checker). record c { parts = c.parts ++ ways }) lone ∙ ap (λ (l : List Part). record { number = place; round = r; parts = part_at_start deques r size checkers place ∷ l }) to in
    subst (λ (l : List Checker). Seated deques r size checkers (place + 1) l) (λ i. set (sym is i) place (sym full i)) (Seated-more deques r size checkers place seats s inside)

-- a seat may take the ways that are laid
pub joined_deal : (deques : Deques) (r : Round) (size checkers place : ℕ) (seat : Checker) (ways : List Part) → seat ≡ lone_seat deques r size checkers place → ways ≡ map (part_at_start deques r size checkers) (others checkers place) → IsDeal seat.round (seat.parts ++ ways)
joined_deal deques r size checkers place seat ways lone to =
    subst (λ (c : Checker). IsDeal c.round (c.parts ++ ways)) (sym lone)
    (subst (λ (l : List Part). IsDeal r (part_at_start deques r size checkers place ∷ l)) (sym to) (seat_deal deques r size checkers place))
