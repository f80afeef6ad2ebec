-- What a seat is to a contract.
use Rattle.std.specs.Prelude.{◌≡◌, ℕ, ◌+◌, ◌-◌, ◌≤◌, ◌<◌, Bool, false, not, List, [], ◌∷◌, ◌++◌}
use Rattle.std.specs.Prelude.{All, filter, length, map, nat_lt, slice_index_or, slice_set, sum_by}
use Rattle.std.specs.List.{list_any, range_with_len}
use Rattle.pg_pool.specs.declared.deque_view.DequeView.{DequeView}
use Rattle.pg_pool.specs.declared.round.Round.{Round}
use Rattle.pg_pool.specs.Rounds.{round, IsIn, numbers, dealt, visited}
use Rattle.pg_pool.specs.DequeRule.{times}

-- which deque it is
abbrev pub DequeId : Type 0
DequeId = ℕ × ℕ

-- a seat's part of a deque: which deque it is, the numbers that were pushed, and those that the
-- seat took
pub record Part : Type 0 where
  pub deque : DequeId
  pub pushed : List ℕ
  pub taken : List ℕ

-- a seat is seen as its checker: the checker's number, the round, and its parts of the deques in
-- the order in which it visits them, its own first
pub record Checker : Type 0 where
  pub number : ℕ
  pub round : Round
  pub parts : List Part

abbrev pub part_of : DequeId → DequeView → Part
part_of deque h = record { deque = deque; pushed = h.pushed; taken = h.taken }

-- a part of which nothing was taken
abbrev pub untouched : DequeId → List ℕ → Part
untouched deque pushed = record { deque = deque; pushed = pushed; taken = [] }

-- the part that stands where none is
abbrev pub no_part : Part
no_part = untouched (0, 0) []

abbrev pub part_at : List Part → ℕ → Part
part_at parts place = slice_index_or parts place no_part

-- how often a number was taken, from whichever deque
abbrev pub times_taken : ℕ → List Part → ℕ
times_taken n parts = sum_by (λ d. times n d.taken) parts

-- how often a number was pushed, to whichever deque
abbrev pub times_pushed : ℕ → List Part → ℕ
times_pushed n parts = sum_by (λ d. times n d.pushed) parts

-- whether a checker took a number: these are the marks of its seat
abbrev pub has_taken : Checker → ℕ → Bool
has_taken c n = nat_lt 0 (times_taken n c.parts)

-- a part with one more number taken
abbrev pub with_taken : Part → ℕ → Part
with_taken d n = record { deque = d.deque; pushed = d.pushed; taken = d.taken ++ n ∷ [] }

-- no number was taken more often than it was pushed
abbrev pub TookPushed : Part → Type 0
TookPushed d = (n : ℕ) → times n d.taken ≤ times n d.pushed

-- a number was taken from one deque, to which it had been pushed, and nothing else changed
pub record TookFrom (old : List Part) (n : ℕ) (new : List Part) : Type 0 where
  pub place : ℕ
  pub inside : place < length old
  pub pushed : TookPushed (with_taken (part_at old place) n)
  pub new_is : new ≡ slice_set old place (with_taken (part_at old place) n)

-- numbers of the round were pushed, each to one deque and once
pub record IsDeal (r : Round) (parts : List Part) : Type 0 where
  pub within : (n : ℕ) → 0 < times_pushed n parts → IsIn r n
  pub once : (n : ℕ) → times_pushed n parts ≤ 1

-- what a seat keeps: the marked places are those of the numbers taken
pub record IsSeat (r : Round) (marks : List Bool) (parts : List Part) : Type 0 where
  pub ordered : r.first ≤ r.last
  pub count : length marks ≡ r.last - r.first
  pub marked : (i : ℕ) → i < length marks →
      slice_index_or marks i false ≡ nat_lt 0 (times_taken (r.first + i) parts)
  pub deal : IsDeal r parts
  pub took : All TookPushed parts

-- the deque of each checker
abbrev pub Deques : Type 0
Deques = ℕ → DequeId

-- the part of the deque of one of so many checkers at the start of a round
abbrev pub part_at_start : Deques → Round → ℕ → ℕ → ℕ → Part
part_at_start deques r size checkers c = untouched (deques c) (dealt r size checkers c)

-- the seat of one of so many checkers at the start of a round
abbrev pub seat_at_start : Deques → Round → ℕ → ℕ → ℕ → Checker
seat_at_start deques r size checkers c = record {
  number = c;
  round = r;
  parts = map (part_at_start deques r size checkers) (visited checkers c);
}

-- all seats at the start of a round: each reaches the same deques, one of each checker
abbrev pub seats_at_start : Deques → Round → ℕ → ℕ → List Checker
seats_at_start deques r size checkers =
    map (seat_at_start deques r size checkers) (range_with_len 0 checkers)

-- these are all seats at the start of a round
abbrev pub AreAtStart : Round → ℕ → ℕ → List Checker → Type 0
AreAtStart r size checkers seats =
    (deques : Deques) × (seats ≡ seats_at_start deques r size checkers)

-- a seat that reaches its own deque alone
abbrev pub lone_seat : Deques → Round → ℕ → ℕ → ℕ → Checker
lone_seat deques r size checkers c =
    record { number = c; round = r; parts = part_at_start deques r size checkers c ∷ [] }

-- the seat that stands where none is
abbrev pub nobody : Checker
nobody = record { number = 0; round = round 0 0; parts = [] }

abbrev pub seat_of : List Checker → ℕ → Checker
seat_of seats place = slice_index_or seats place nobody

-- a part of which nothing was taken, of the same deque
abbrev pub way_to_part : Part → Part
way_to_part d = untouched d.deque d.pushed

-- a way to the deque of the seat at a place
abbrev pub way_to : List Checker → ℕ → Part
way_to seats place = way_to_part (part_at (seat_of seats place).parts 0)

-- the round of the first seat
abbrev pub round_of : List Checker → Round
round_of seats = (seat_of seats 0).round

abbrev pub AreOfOneRound : List Checker → Type 0
AreOfOneRound seats = All (λ s. s.round ≡ round_of seats) seats

-- whether some seat took a number
abbrev pub is_taken : List Checker → ℕ → Bool
is_taken seats n = list_any (λ s. has_taken s n) seats

-- the numbers of the round that no seat took, in order
abbrev pub untaken : List Checker → List ℕ
untaken seats = filter (λ n. not (is_taken seats n)) (numbers (round_of seats))
