use Rattle.std.proofs.Common.{◌≡◌, Option, Some, None, refl, sym, ◌∙◌, ap, subst, inr}
use Rattle.std.specs.Prelude.{slice_get}
use Rattle.std.proofs.lemmas.Option.{slice_get-get_or, slice_get_within, slice_get_past}
use Rattle.pg_guest.specs.declared.instruction.Instruction.{Instruction}
use Rattle.pg_guest.specs.Tasks.{IsWellFormed}
use Rattle.pg_guest.specs.declared.advance.Advance.TheVariants.{Ended}
use Rattle.pg_guest.specs.Turn.{Turned, ComesTo, turned_by}
use Rattle.pg_guest.specs.Held.{Held, seen}
use Rattle.pg_guest.proofs.Instructions.{AllByRecursion-at}
use Rattle.pg_guest.proofs.processor.Processor.turn.Goals as goal

pub step-requires-clause-well : goal.step-requires-clause-well
step-requires-clause-well c =
    let now = c.args.self.now in
    let i = c.in-Some.instruction.now in
    let got = c.in-Some.ensures.lookup in
    let at : slice_get now.instructions now.place ≡ Some i =
    ap (λ (h : Held). slice_get h.instructions h.place) (sym c.self.view_is) ∙ slice_get-get_or c.self.inside.instructions.now c.self.inside.place i got.3.0 ∙ ap (λ (x : Instruction). Some x) (sym got.1) in
    AllByRecursion-at (IsWellFormed c.args.world.now.head now.number) now.instructions now.place i c.requires.well at

pub step-requires-clause-due : goal.step-requires-clause-due
step-requires-clause-due c =
    let now = c.args.self.now in
    let i = c.in-Some.instruction.now in
    let got = c.in-Some.ensures.lookup in
    let at : slice_get now.instructions now.place ≡ Some i =
    ap (λ (h : Held). slice_get h.instructions h.place) (sym c.self.view_is) ∙ slice_get-get_or c.self.inside.instructions.now c.self.inside.place i got.3.0 ∙ ap (λ (x : Instruction). Some x) (sym got.1) in
    slice_get_within now.instructions now.place i at

pub returns-in-Some-clause-turn : goal.returns-in-Some-clause-turn
returns-in-Some-clause-turn c =
    let now = c.args.self.now in
    let r = c.args.world.now in
    let i = c.in-Some.instruction.now in
    let got = c.in-Some.ensures.lookup in
    let at : slice_get now.instructions now.place ≡ Some i =
    ap (λ (h : Held). slice_get h.instructions h.place) (sym c.self.view_is) ∙ slice_get-get_or c.self.inside.instructions.now c.self.inside.place i got.3.0 ∙ ap (λ (x : Instruction). Some x) (sym got.1) in
    let t : Turned = record { answer = c.step.result; world = c.step.new.world; processor = seen c.step.new.self } in
    subst (λ (o : Option Instruction). ComesTo r (seen now) (turned_by now.number r (seen now) o) t) (sym at) c.step.ensures.turn

pub returns-in-None-clause-turn : goal.returns-in-None-clause-turn
returns-in-None-clause-turn c =
    let now = c.args.self.now in
    let r = c.args.world.now in
    let at : slice_get now.instructions now.place ≡ None =
    ap (λ (h : Held). slice_get h.instructions h.place) (sym c.self.view_is) ∙ slice_get_past c.self.inside.instructions.now c.self.inside.place c.in-None.ensures.lookup.3 in
    let t : Turned = record { answer = Ended; world = r; processor = seen now } in
    subst (λ (o : Option Instruction). ComesTo r (seen now) (turned_by now.number r (seen now) o) t) (sym at) (inr (record { granted = refl; is = refl }))
