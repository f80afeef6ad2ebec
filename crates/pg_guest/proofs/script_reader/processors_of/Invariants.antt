use Rattle.std.proofs.Common.{ℕ, ◌≡◌, ◌<◌, ◌^◌, ◌+◌, ◌-◌, length}
use Rattle.std.specs.List.{AllByRecursion}
use Rattle.pg_guest.specs.Reading.{starts_at, processors_at}
use Rattle.pg_guest.specs.Answers.{told_in}
use Rattle.pg_guest.specs.Refusals.{Adds}
use Rattle.pg_guest.proofs.Loops.{starts_behind}
use Rattle.pg_guest.proofs.script_reader.processors_of.Given as goal

abbrev pub invariant-loop : goal.invariant-loop
invariant-loop l = record {
  so_far : starts_behind l.starts.items (starts_at l.maxphyaddr (l.most - l.counter) (told_in l.rest)) ≡ processors_at l.maxphyaddr l.most (told_in l.text);
  within : (n : ℕ) → Adds (told_in l.rest) n → Adds (told_in l.text) n;
  count : length l.starts.items ≡ l.counter + 1;
  range : AllByRecursion (λ start. start.0 < 2 ^ l.maxphyaddr) l.starts.items;
}
