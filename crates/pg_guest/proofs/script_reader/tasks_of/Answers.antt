use Rattle.std.proofs.Common.{inl, inr, ◌≡◌, ◌∙◌, ◌<◌, Some, None, length, sym, arith}
use Rattle.std.specs.Prelude.{Ok, Err}
use Rattle.std.proofs.lemmas.List.{length_push}
use Rattle.std.proofs.lemmas.Result.{err_from_is_err_and}
use Rattle.pg_guest.specs.Reading.{next_task_at, most_instructions}
use Rattle.pg_guest.specs.Answers.{told_in, said_in}
use Rattle.pg_guest.proofs.Loops.{tasks_go_on, tasks_end, tasks_refused}
use Rattle.pg_guest.proofs.Pushing.{all_pushed}
use Rattle.pg_guest.proofs.Wants.{lacks_task, told_in_rising, adds_behind_task}
use Rattle.pg_guest.specs.Reading.{tasks_at}
use Rattle.pg_guest.specs.declared.instruction.Task.{Task}
use Rattle.pg_guest.specs.Tasks.{IsWellFormed}
use Rattle.pg_guest.proofs.script_reader.tasks_of.Goals as goal

pub returns-in_err-task-clause-tasks : goal.returns-in_err-task-clause-tasks
returns-in_err-task-clause-tasks c =
    let p = err_from_is_err_and c.from_residual.result c.from_residual.ensures.1 in
    let e = c.in_err-task.field-0.0 in
    let head = c.args.header.now in
    let next : next_task_at head (length c.lines.tasks) (told_in c.lines.rest) ≡ Err e =
    rw (← c.len.ensures) c.in_err-task.ensures.task in
    let read = sym c.lines.invariant.so_far ∙ tasks_refused head c.lines.tasks (told_in c.lines.rest) e next in
    rw (p.1, p.2) (inl read)

pub returns-in_default-clause-tasks : goal.returns-in_default-clause-tasks
returns-in_default-clause-tasks c =
    let head = c.args.header.now in
    let next : next_task_at head (length c.lines.tasks) (told_in c.lines.rest) ≡ Ok None =
    rw (← c.len.ensures) (rw c.in_default.is at c.in_ok-task.ensures.task) in
    sym c.lines.invariant.so_far ∙ tasks_end head c.lines.tasks (told_in c.lines.rest) next

pub lines-preserved : goal.lines-preserved
lines-preserved c =
    let head = c.args.header.now in
    let next : next_task_at head (length c.lines.tasks) (told_in c.lines.rest) ≡ Ok (Some (said_in told_in c.in-Some.task)) =
    rw (← c.len.ensures) (rw c.in-Some.is at c.in_ok-task.ensures.task) in
    let tasks = c.lines.tasks in
    let task = c.in-Some.task.value in
    let P : Task → Type 0 = λ t. IsWellFormed head t.p t.instruction in
    let pushed = c.in-Ok.ensures.ok in
    let well : P task = rw c.in-Some.is at c.in_ok-task.ensures.well in
    let room : c.len.result < most_instructions = rw c.in-Some.is at c.in_ok-task.ensures.few in
    let few : length tasks < most_instructions = rw (← c.len.ensures) room in
    record {
      so_far = rw pushed (tasks_go_on head tasks (told_in c.lines.rest) (said_in told_in c.in-Some.task) next ∙ c.lines.invariant.so_far);
      within = λ n a. c.lines.invariant.within n (adds_behind_task head (length tasks) (told_in c.lines.rest) (said_in told_in c.in-Some.task) n next a);
      few = rw pushed (rw (length_push tasks task) (omega (arith, few)));
      well = rw pushed (all_pushed P tasks task c.lines.invariant.well well);
    }

pub returns-in-Err-clause-tasks : goal.returns-in-Err-clause-tasks
returns-in-Err-clause-tasks c =
    let head = c.args.header.now in
    let l = c.lines in
    let next : next_task_at head (length l.tasks) (told_in l.rest) ≡ Ok (Some (said_in told_in c.in-Some.task)) =
    rw (← c.len.ensures) (rw c.in-Some.is at c.in_ok-task.ensures.task) in
    rw c.out_of_memory.ensures
    (inr (lacks_task head l.tasks (told_in c.args.text) (told_in l.rest) (said_in told_in c.in-Some.task) (tasks_at head 0 (told_in c.args.text)) next (told_in_rising l.rest) l.invariant.within l.invariant.so_far))
