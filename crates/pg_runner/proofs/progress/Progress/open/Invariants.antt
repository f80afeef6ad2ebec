use Rattle.std.proofs.Common.{◌≡◌, vec_len, vec_capacity, All}
use Rattle.pg_runner.specs.Seats.{is_at, counts}
use Rattle.pg_runner.proofs.progress.Progress.open.Given as goal

abbrev pub invariant-loop : goal.invariant-loop
invariant-loop l = record {
  publisher : l.publisher ≡ is_at l.progress (counts 0 0);
  readers : All (λ s. s ≡ is_at l.progress (counts 0 0)) l.seats.items;
  count : vec_len l.seats ≡ l.counter;
  room : vec_capacity l.seats ≡ vec_capacity l.initial.seats;
}
