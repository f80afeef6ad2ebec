use Rattle.std.proofs.Common.{ℕ, ◌≡◌, ◌≤◌, length}
use Rattle.std.specs.List.{AllByRecursion}
use Rattle.pg_guest.specs.Tasks.{IsWellFormed}
use Rattle.pg_guest.specs.Reading.{tasks_at, most_instructions}
use Rattle.pg_guest.specs.Answers.{told_in}
use Rattle.pg_guest.specs.Refusals.{Adds}
use Rattle.pg_guest.proofs.Loops.{tasks_behind}
use Rattle.pg_guest.proofs.script_reader.tasks_of.Given as goal

abbrev pub invariant-lines : goal.invariant-lines
invariant-lines l = record {
  so_far : tasks_behind l.tasks (tasks_at l.header (length l.tasks) (told_in l.rest)) ≡ tasks_at l.header 0 (told_in l.fn.text);
  within : (n : ℕ) → Adds (told_in l.rest) n → Adds (told_in l.fn.text) n;
  few : length l.tasks ≤ most_instructions;
  well : AllByRecursion (λ task. IsWellFormed l.header task.p task.instruction) l.tasks;
}

abbrev pub decreases-lines : goal.decreases-lines
decreases-lines l = length l.rest.1
