use Rattle.std.proofs.Common.{rules, ◌∙◌, ◌∷◌, [], ap, sym, subst}
use Rattle.crossbeam_deque.specs.Handles.{worker_deque}
use Rattle.pg_pool.specs.declared.deque_view.DequeView.{DequeView}
use Rattle.pg_pool.specs.Seats.{part_of, IsDeal}
use Rattle.pg_pool.proofs.Deals.{lone_deal, Lone-more}
use Rattle.pg_pool.proofs.deal.lone_seats.Goals as goal

pub new-requires-clause-deal : goal.new-requires-clause-deal
new-requires-clause-deal c =
    let id = (worker_deque c.in_ok-deque.deque).0 in
    subst (λ (h : DequeView). IsDeal c.args.round (part_of id h ∷ [])) (sym c.in_ok-deque.ensures.dealt) (lone_deal (λ _. id) c.args.round c.args.size c.args.checkers c.loop-number.number)

pub loop-number-init : goal.loop-number-init
loop-number-init c = (λ _. (0, 0), search rules)

pub loop-number-preserved : goal.loop-number-preserved
loop-number-preserved c =
    let id = (worker_deque c.in_ok-deque.deque).0 in
    Lone-more c.args.round c.args.size c.args.checkers c.loop-number.number id c.loop-number.seats.items c.push.new.self.items c.in_ok-new.field-0 c.loop-number.invariant
    (c.in_ok-new.ensures ∙ ap (λ (h : DequeView). record { number = c.loop-number.number; round = c.args.round; parts = part_of id h ∷ [] }) c.in_ok-deque.ensures.dealt)
    (search rules)
