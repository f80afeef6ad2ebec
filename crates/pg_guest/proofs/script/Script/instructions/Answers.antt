use Rattle.std.proofs.Common.{◌≡◌, rules}
use Rattle.pg_guest.specs.Tasks.{instructions_of}
use Rattle.pg_guest.specs.Reading.{IsScript}
use Rattle.pg_guest.proofs.Wells.{own_well}
use Rattle.pg_guest.proofs.script.Script.instructions.Goals as goal

pub returns-clause-well : goal.returns-clause-well
returns-clause-well c =
    let script = c.args.self.now in
    let kept : IsScript script = rw (← c.self.view_is) c.self.invariant in
    let own : c.instructions.result.now ≡ instructions_of c.args.p script.tasks = search rules in
    rw own (own_well script.head c.args.p script.tasks kept.well)
