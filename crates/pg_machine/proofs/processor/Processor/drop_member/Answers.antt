use Rattle.std.proofs.Common.{rules, not}
use Rattle.std.proofs.lemmas.Fn.{filter_same}
use Rattle.pg_machine.specs.Machine.{same_structure, same_translation}
use Rattle.pg_machine.proofs.Newest.{filter-reverse}
use Rattle.pg_machine.proofs.processor.Processor.drop_member.Goals as goal

pub returns-in-Structure : goal.returns-in-Structure
returns-in-Structure c =
    let kept = filter_same _ (λ y. not (same_structure c.in-Structure.structure y)) _ (λ x b f k. search rules) _ _ c.retain.ensures.filtered in
    let same = filter-reverse (λ y. not (same_structure c.in-Structure.structure y)) c.self.inside.structures.items in
    rw (c.in-Structure.is, ← c.self.view_is, kept, same)

pub returns-in-Translation : goal.returns-in-Translation
returns-in-Translation c =
    let kept = filter_same _ (λ y. not (same_translation c.in-Translation.translation y)) _ (λ x b f k. search rules) _ _ c.retain-in-Translation.ensures.filtered in
    let same = filter-reverse (λ y. not (same_translation c.in-Translation.translation y)) c.self.inside.translations.items in
    rw (c.in-Translation.is, ← c.self.view_is, kept, same)
