use Rattle.std.proofs.Common.{rules, not}
use Rattle.std.proofs.lemmas.Fn.{filter_same}
use Rattle.pg_event.specs.Meaning.{takes_structure, takes_translation}
use Rattle.pg_machine.proofs.Newest.{filter-reverse}
use Rattle.pg_machine.proofs.processor.Processor.drop_taken.Goals as goal

pub returns : goal.returns
returns c =
    let structures = filter_same _ (λ x. not (takes_structure c.args.by x.key)) _ (λ x b f k. search rules) _ _ c.retain.ensures.filtered in
    let translations = filter_same _ (λ x. not (takes_translation c.args.by x.key)) _ (λ x b f k. search rules) _ _ c.retain-2.ensures.filtered in
    let in_structures = filter-reverse (λ x. not (takes_structure c.args.by x.key)) c.self.inside.structures.items in
    let in_translations = filter-reverse (λ x. not (takes_translation c.args.by x.key)) c.self.inside.translations.items in
    rw (← c.self.view_is, structures, translations, in_structures, in_translations)
