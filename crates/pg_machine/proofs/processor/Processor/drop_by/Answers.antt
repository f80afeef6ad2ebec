use Rattle.std.proofs.Common.{refl}
use Rattle.pg_event.specs.Meaning.{takes_structure, takes_translation}
use Rattle.pg_event.specs.declared.invalidation.Invalidation.TheVariants.{Nothing}
use Rattle.pg_machine.specs.declared.step.Structure.{Structure}
use Rattle.pg_machine.specs.declared.step.Translation.{Translation}
use Rattle.pg_machine.proofs.Newest.{kept_whole}
use Rattle.pg_machine.proofs.processor.Processor.drop_by.Goals as goal

pub returns-in-Nothing : goal.returns-in-Nothing
returns-in-Nothing c =
    let structures = kept_whole (λ (x : Structure). takes_structure Nothing x.key) (λ x. refl) c.args.self.now.structures in
    let translations = kept_whole (λ (x : Translation). takes_translation Nothing x.key) (λ x. refl) c.args.self.now.translations in
    rw (c.in-Nothing.is, structures, translations)
