use Rattle.std.proofs.Common.{rules, ◌≡◌, ◌∙◌, ◌+◌, ◌-◌, ◌<◌, ◌∷◌, ◌++◌, [], ℕ, List, length, map, ap, sym, arith}
use Rattle.std.specs.List.{range_with_len}
use Rattle.std.proofs.lemmas.List.{get_or_read, map_push, append_assoc}
use Rattle.std.proofs.lemmas.List.FromFn.{map-range_with_len_more}
use Rattle.pg_pool.specs.Seats.{Part, Checker, part_at, way_to_part, nobody, seat_of, way_to}
use Rattle.pg_pool.specs.Ways.{reached, reached_part}
use Rattle.pg_pool.proofs.Deals.{set-same}
use Rattle.pg_pool.proofs.deal.reach.Goals as goal

pub loop-owner-preserved : goal.loop-owner-preserved
loop-owner-preserved c =
    let seats = c.loop-owner.seats in
    let owner = c.loop-owner.owner in
    let old = c.args.seats.now.items in
    let was = c.loop-owner.invariant in
    let inside : owner < length seats.items = search rules in
    let seat : c.index_mut-seat.result.now ≡ seat_of old owner =
    get_or_read seats.items owner c.index_mut-seat.result.now inside c.index_mut-seat.ensures.value nobody ∙ ap (λ (l : List Checker). seat_of l owner) was.0 in
    let way : reached_part c.in_ok-other_deque.other_deque ≡ way_to old owner =
    c.in_ok-other_deque.ensures.way ∙ ap (λ (s : Checker). way_to_part (part_at s.parts 0)) seat in
    let pushed : c.push.new.self.items ≡ c.loop-owner.other_deques.items ++ c.in_ok-other_deque.other_deque ∷ [] = search rules in
    let e : owner + 1 - c.args.from ≡ owner - c.args.from + 1 = omega arith in (
      set-same seats.items owner c.index_mut-seat.result.now c.lend.new.self c.index_mut-seat.ensures.value c.lend.ensures.same ∙ was.0,
      ap reached pushed
          ∙ map_push reached_part c.loop-owner.other_deques.items c.in_ok-other_deque.other_deque
          ∙ (λ i. was.1 i ++ way i ∷ [])
          ∙ append_assoc (reached c.args.other_deques.now.items) (map (way_to old) (range_with_len c.args.from (owner - c.args.from))) (way_to old owner ∷ [])
          ∙ ap (λ (l : List Part). reached c.args.other_deques.now.items ++ l)
          (sym (ap (λ (n : ℕ). map (way_to old) (range_with_len c.args.from n)) e ∙ map-range_with_len_more (way_to old) c.args.from (owner - c.args.from) owner (omega arith))),
    )

pub returns-in_err-other_deque-clause-same : goal.returns-in_err-other_deque-clause-same
returns-in_err-other_deque-clause-same c = set-same c.loop-owner.seats.items c.loop-owner.owner c.index_mut-seat.result.now c.lend.new.self c.index_mut-seat.ensures.value c.lend.ensures.same ∙ c.loop-owner.invariant.0

pub returns-in_err-push-clause-same : goal.returns-in_err-push-clause-same
returns-in_err-push-clause-same c = set-same c.loop-owner.seats.items c.loop-owner.owner c.index_mut-seat.result.now c.lend.new.self c.index_mut-seat.ensures.value c.lend.ensures.same ∙ c.loop-owner.invariant.0

pub returns-clause-same : goal.returns-clause-same
returns-clause-same c = c.loop-owner.invariant.0

pub returns-clause-ways : goal.returns-clause-ways
returns-clause-ways c =
    let last : c.loop-owner.owner ≡ c.args.to = omega (arith, c.loop-owner-test.false, c.loop-owner.auto.owner-end, c.requires.0) in
    rw last at c.loop-owner.invariant.1
