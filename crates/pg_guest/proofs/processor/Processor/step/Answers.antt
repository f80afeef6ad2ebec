use Rattle.std.proofs.Common.{Some, refl, sym, ap}
use Rattle.pg_event.specs.declared.event.Event.TheVariants as events
use Rattle.pg_guest.specs.Held.{Held}
use Rattle.pg_guest.proofs.Instructions.{carries}
use Rattle.pg_guest.proofs.processor.Processor.step.Goals as goal

pub carry_out-requires-clause-event : goal.carry_out-requires-clause-event
carry_out-requires-clause-event c =
    carries c.args.world.now.head c.self.inside.number c.args.self.now.number c.args.instruction.now (events.Write c.self.inside.number c.in-Write.addr c.in-Write.value)
    (ap (λ (h : Held). h.number) c.self.view_is) c.requires.well refl (ap Some (sym c.in-Write.is))

pub carry_out-requires-in-MovCr3-clause-event : goal.carry_out-requires-in-MovCr3-clause-event
carry_out-requires-in-MovCr3-clause-event c =
    carries c.args.world.now.head c.self.inside.number c.args.self.now.number c.args.instruction.now (events.MovCr3 c.self.inside.number c.in-MovCr3.operand)
    (ap (λ (h : Held). h.number) c.self.view_is) c.requires.well refl (ap Some (sym c.in-MovCr3.is))

pub carry_out-requires-in-Invlpg-clause-event : goal.carry_out-requires-in-Invlpg-clause-event
carry_out-requires-in-Invlpg-clause-event c =
    carries c.args.world.now.head c.self.inside.number c.args.self.now.number c.args.instruction.now (events.Invlpg c.self.inside.number c.in-Invlpg.la)
    (ap (λ (h : Held). h.number) c.self.view_is) c.requires.well refl (ap Some (sym c.in-Invlpg.is))

pub carry_out-requires-in-Invpcid-clause-event : goal.carry_out-requires-in-Invpcid-clause-event
carry_out-requires-in-Invpcid-clause-event c =
    carries c.args.world.now.head c.self.inside.number c.args.self.now.number c.args.instruction.now (events.Invpcid c.self.inside.number c.in-Invpcid.kind c.in-Invpcid.pcid c.in-Invpcid.la)
    (ap (λ (h : Held). h.number) c.self.view_is) c.requires.well refl (ap Some (sym c.in-Invpcid.is))

pub carry_out-requires-in-MovCr4Pge-clause-event : goal.carry_out-requires-in-MovCr4Pge-clause-event
carry_out-requires-in-MovCr4Pge-clause-event c =
    carries c.args.world.now.head c.self.inside.number c.args.self.now.number c.args.instruction.now (events.MovCr4Pge c.self.inside.number c.in-MovCr4Pge.on)
    (ap (λ (h : Held). h.number) c.self.view_is) c.requires.well refl (ap Some (sym c.in-MovCr4Pge.is))
