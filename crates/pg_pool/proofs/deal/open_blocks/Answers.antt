use Rattle.std.proofs.Common.{◌≡◌, ◌<◌, ℕ, All, List, length, sym, subst, [], arith}
use Rattle.pg_pool.specs.Rounds.{others}
use Rattle.pg_pool.specs.Seats.{Part}
use Rattle.pg_pool.specs.Ways.{reached}
use Rattle.pg_pool.proofs.Deals.{Seated, Seated-start, Seated-ways, Seated-here, Seated-next, Seated-all, joined_deal, none_taken}
use Rattle.pg_pool.proofs.deal.open_blocks.Goals as goal

pub loop-place-init : goal.loop-place-init
loop-place-init c = let lone = c.in_ok-seats.ensures in (lone.0, Seated-start lone.0 _ _ _ _ lone.1)

pub join-requires-clause-none : goal.join-requires-clause-none
join-requires-clause-none c =
    let r = c.args.round in
    let k = c.args.size in
    let n = c.args.checkers in
    let place = c.loop-place.place in
    let deques = c.loop-place.invariant.0 in
    let s = c.loop-place.invariant.1 in
    let count : length c.in_ok-seats.seats.items ≡ n = (Seated-start c.in_ok-seats.ensures.0 r k n _ c.in_ok-seats.ensures.1).count in
    let inside : place < n = omega (arith, count, c.in_ok-seats.seats.ok.0, c.len-place-end.ensures, c.loop-place-test.true) in
    let to = Seated-ways deques r k n place _ c.loop-place.seats.items (reached c.in_ok-other_deques.other_deques.items) s inside (omega (arith, s.count, c.loop-place.seats.ok.0)) c.in_ok-other_deques.ensures.ways in
    subst (λ (l : List Part). All (λ d. d.taken ≡ []) l) (sym to) (none_taken deques r k n (others n place))

pub join-requires-clause-deal : goal.join-requires-clause-deal
join-requires-clause-deal c =
    let r = c.args.round in
    let k = c.args.size in
    let n = c.args.checkers in
    let place = c.loop-place.place in
    let deques = c.loop-place.invariant.0 in
    let s = c.loop-place.invariant.1 in
    let count : length c.in_ok-seats.seats.items ≡ n = (Seated-start c.in_ok-seats.ensures.0 r k n _ c.in_ok-seats.ensures.1).count in
    let inside : place < n = omega (arith, count, c.in_ok-seats.seats.ok.0, c.len-place-end.ensures, c.loop-place-test.true) in
    let to = Seated-ways deques r k n place _ c.loop-place.seats.items (reached c.in_ok-other_deques.other_deques.items) s inside (omega (arith, s.count, c.loop-place.seats.ok.0)) c.in_ok-other_deques.ensures.ways in
    let lone = Seated-here deques r k n place c.loop-place.seats.items c.ways.new.seats.items c.index_mut-seat.result.now s inside c.ways.ensures.same c.index_mut-seat.ensures.value in
    joined_deal deques r k n place _ _ lone to

pub loop-place-preserved : goal.loop-place-preserved
loop-place-preserved c =
    let r = c.args.round in
    let k = c.args.size in
    let n = c.args.checkers in
    let place = c.loop-place.place in
    let deques = c.loop-place.invariant.0 in
    let s = c.loop-place.invariant.1 in
    let count : length c.in_ok-seats.seats.items ≡ n = (Seated-start c.in_ok-seats.ensures.0 r k n _ c.in_ok-seats.ensures.1).count in
    let inside : place < n = omega (arith, count, c.in_ok-seats.seats.ok.0, c.len-place-end.ensures, c.loop-place-test.true) in
    let to = Seated-ways deques r k n place _ c.loop-place.seats.items (reached c.in_ok-other_deques.other_deques.items) s inside (omega (arith, s.count, c.loop-place.seats.ok.0)) c.in_ok-other_deques.ensures.ways in
    let lone = Seated-here deques r k n place c.loop-place.seats.items c.ways.new.seats.items c.index_mut-seat.result.now s inside c.ways.ensures.same c.index_mut-seat.ensures.value in
    (deques, Seated-next deques r k n place c.loop-place.seats.items c.ways.new.seats.items _ c.join.new.self _ s inside c.ways.ensures.same lone to c.join.ensures)

pub returns : goal.returns
returns c =
    let r = c.args.round in
    let k = c.args.size in
    let n = c.args.checkers in
    let count : length c.in_ok-seats.seats.items ≡ n = (Seated-start c.in_ok-seats.ensures.0 r k n _ c.in_ok-seats.ensures.1).count in
    let last : c.loop-place.place ≡ n = omega (arith, count, c.in_ok-seats.seats.ok.0, c.len-place-end.ensures, c.loop-place-test.false) in
    let deques = c.loop-place.invariant.0 in
    (deques, Seated-all deques r k n c.loop-place.seats.items (subst (λ (i : ℕ). Seated deques r k n i c.loop-place.seats.items) last c.loop-place.invariant.1))
