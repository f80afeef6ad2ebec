use Rattle.std.proofs.Common.{◌≡◌, refl, ap}
use Rattle.pg_event.specs.declared.event.Event.TheVariants.{Access}
use Rattle.pg_guest.specs.Held.{Held}
use Rattle.pg_guest.specs.declared.instruction.Instruction.TheVariants as instructions
use Rattle.pg_guest.proofs.Instructions.{carries}
use Rattle.pg_guest.proofs.processor.Processor.access.Goals as goal

pub carry_out-requires-clause-event : goal.carry_out-requires-clause-event
carry_out-requires-clause-event c =
    let own : c.self.inside.number ≡ c.args.self.now.number = ap (λ (h : Held). h.number) c.self.view_is in
    carries c.args.world.now.head c.self.inside.number c.args.self.now.number (instructions.Access c.args.flags c.args.la)
    (Access c.self.inside.number c.args.flags c.args.la c.args.outcome c.args.moments) own c.requires.well refl refl
