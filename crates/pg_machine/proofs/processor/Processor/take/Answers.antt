use Rattle.std.proofs.Common.{not, reverse, ap, sym, ◌∙◌}
use Rattle.std.proofs.lemmas.List.Elements.{filter_agree}
use Rattle.pg_event.specs.Invalidation.{must_drop_structure, must_drop_translation}
use Rattle.pg_event.specs.Meaning.{takes_structure, takes_translation}
use Rattle.pg_machine.specs.declared.step.Structure.{Structure}
use Rattle.pg_machine.specs.declared.step.Translation.{Translation}
use Rattle.pg_machine.specs.Listed.{ProcessorState}
use Rattle.pg_machine.specs.Stepping.{without_taken}
use Rattle.pg_machine.proofs.Bounds.{root-controlled}
use Rattle.pg_machine.proofs.processor.Processor.take.Goals as goal

pub invariant_of-self : goal.invariant_of-self
invariant_of-self c =
    rw c.controlled-self-inside.ensures (root-controlled c.args.cfg.m c.processor_of.result c.self.inside.control c.args.event.now c.requires.width.0 c.requires.width.1 c.self.invariant)

pub returns : goal.returns
returns c =
    let by = c.invalidation.result in
    let control = c.self.inside.control in
    let e = c.args.event.now in
    let taken = c.self-2.view_is ∙ (c.drop_by.ensures ∙ ap (without_taken by) (sym c.self.view_is)) in
    let structures = ap (λ (s : ProcessorState). s.structures) taken
    ∙ filter_agree (λ (x : Structure). not (takes_structure by x.key)) (λ (x : Structure). not (must_drop_structure c.args.cfg.rules control e x.key))
    (λ (x : Structure). ap not (c.invalidation.ensures.structures x.key)) (reverse c.self.inside.structures.items) in
    let translations = ap (λ (s : ProcessorState). s.translations) taken
    ∙ filter_agree (λ (x : Translation). not (takes_translation by x.key)) (λ (x : Translation). not (must_drop_translation c.args.cfg.rules control e x.key))
    (λ (x : Translation). ap not (c.invalidation.ensures.translations x.key)) (reverse c.self.inside.translations.items) in
    rw (← c.self.view_is, structures, translations, c.controlled-self-inside.ensures, c.processor_of.ensures)
