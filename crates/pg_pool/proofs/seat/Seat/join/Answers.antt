use Rattle.std.proofs.Common.{◌≡◌, subst, List, [], ◌∷◌, ◌++◌}
use Rattle.pg_pool.specs.Seats.{Part, IsDeal, IsSeat}
use Rattle.pg_pool.specs.Ways.{own_part, reached}
use Rattle.pg_pool.proofs.Seats.{IsSeat-join}
use Rattle.pg_pool.proofs.seat.Seat.join.Goals as goal

pub invariant_of-self : goal.invariant_of-self
invariant_of-self c =
    let s = c.self.inside in
    let own : Part = own_part s.deque in
    let parts : List Part = own ∷ reached s.other_deques.items in
    let more : List Part = reached c.args.other_deques.items in
    let alone : parts ≡ own ∷ [] = rw (← c.self.view_is) at c.requires.alone in
    let deal : IsDeal s.round (parts ++ more) = rw (← c.self.view_is) at c.requires.deal in
    let joined = IsSeat-join s.round s.marks.items parts more c.self.invariant.1 c.requires.none deal in
    (c.self.invariant.0, subst (λ (l : List Part). IsSeat s.round s.marks.items (l ++ more)) alone joined)
