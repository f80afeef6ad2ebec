use Rattle.std.proofs.Common.{◌∙◌, ap, subst}
use Rattle.std.specs.List.{AllByRecursion}
use Rattle.pg_event.specs.Heads.{Head}
use Rattle.pg_guest.specs.Tasks.{IsWellFormed}
use Rattle.pg_guest.specs.Turn.{fresh}
use Rattle.pg_guest.proofs.Placed.{is_new}
use Rattle.pg_guest.proofs.driver.processor_of.Goals as goal

pub returns : goal.returns
returns c =
    let script = c.args.script.now in
    let own = c.instructions.result.now in
    is_new script c.args.p c.new.result own c.new.ensures.number
    (c.new.ensures.fresh ∙ ap (λ (head : Head). fresh head c.args.p own) c.header.ensures.header)
    c.instructions.ensures.instructions
    (subst (AllByRecursion (IsWellFormed script.head c.args.p)) c.instructions.ensures.instructions c.instructions.ensures.well)
