use Rattle.std.proofs.lemmas.Result.{err_from_is_err_and}
use Rattle.pg_guest.specs.Answers.{told_in}
use Rattle.pg_guest.proofs.Wants.{refused_in_head, refused_in_tasks}
use Rattle.pg_guest.proofs.script.Script.read.Goals as goal

pub returns-in_err-header-clause-refused : goal.returns-in_err-header-clause-refused
returns-in_err-header-clause-refused c =
    let p = err_from_is_err_and c.from_residual.result c.from_residual.ensures.1 in
    let e = c.in_err-header.field-0.0 in
    let read = rw c.new.ensures at c.in_err-header.ensures.header in
    rw (p.1, p.2) (refused_in_head c.args.bytes.now e read)

pub returns-in_err-tasks-clause-refused : goal.returns-in_err-tasks-clause-refused
returns-in_err-tasks-clause-refused c =
    let p = err_from_is_err_and c.from_residual-in_err-tasks.result c.from_residual-in_err-tasks.ensures.1 in
    let e = c.in_err-tasks.field-0.0 in
    let head = rw c.new.ensures at c.in_ok-header.ensures.header in
    rw (p.1, p.2) (refused_in_tasks c.args.bytes.now c.in_ok-header.header (told_in c.in_ok-header.text) e head c.in_err-tasks.ensures.tasks)
