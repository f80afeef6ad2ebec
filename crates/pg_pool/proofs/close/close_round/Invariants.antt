use Rattle.std.proofs.Common.{◌≡◌, not, filter}
use Rattle.pg_pool.specs.Rounds.{round, numbers}
use Rattle.pg_pool.specs.Seats.{is_taken, round_of}
use Rattle.pg_pool.proofs.close.close_round.Given as goal

abbrev pub invariant-loop-number : goal.invariant-loop-number
invariant-loop-number l =
    l.left.items ≡ filter (λ n. not (is_taken l.seats.items n)) (numbers (round (round_of l.seats.items).first l.number))
