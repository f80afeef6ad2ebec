use Rattle.std.proofs.Common.{◌≡◌, rules}
use Rattle.pg_guest.specs.Tasks.{order_of}
use Rattle.pg_guest.specs.Reading.{IsScript}
use Rattle.pg_guest.proofs.Wells.{order_within}
use Rattle.pg_guest.proofs.script.Script.order.Goals as goal

pub returns-clause-within : goal.returns-clause-within
returns-clause-within c =
    let script = c.args.self.now in
    let kept : IsScript script = rw (← c.self.view_is) c.self.invariant in
    let order : c.order.result.now ≡ order_of script.tasks = search rules in
    rw order (order_within script.head script.tasks kept.well)
