use Rattle.std.proofs.Common.{◌-◌, ◌^◌, sym, subst, ◌∙◌}
use Rattle.pg_inval.specs.declared.space.Space.{Space}
use Rattle.pg_inval.specs.Spaces.{IsSpaceDrop, translation_space}
use Rattle.pg_chain.specs.declared.past.Past.{Past}
use Rattle.pg_chain.specs.Standing.{IsPast}
use Rattle.pg_chain.proofs.reader.Reader.first_drop_from.Goals as goal

pub returns-then-is_empty-clause-run : goal.returns-then-is_empty-clause-run
returns-then-is_empty-clause-run c = λ head events h.
    c.first_drop_of_translation.ensures.run head events (subst (λ (x : Past). IsPast x head events) (sym c.self.view_is) h)

pub first_drop_of_translation_beside-requires-clause-found : goal.first_drop_of_translation_beside-requires-clause-found
first_drop_of_translation_beside-requires-clause-found c =
    let a = c.args in
    subst (λ (x : Past). IsSpaceDrop x.drops (translation_space a.p a.key) a.from (2 ^ 32 - 1) c.space_drop-found.result)
    (sym (c.self-2.view_is ∙ c.space_drop-found.ensures.past))
    (subst (λ (x : Space). IsSpaceDrop a.self.now.drops x a.from (2 ^ 32 - 1) c.space_drop-found.result) c.translation_space.ensures c.space_drop-found.ensures.drop)

pub returns-clause-run : goal.returns-clause-run
returns-clause-run c = λ head events h.
    let here = subst (λ (x : Past). IsPast x head events) (sym (c.self-2.view_is ∙ c.space_drop-found.ensures.past)) h in
    c.first_drop_of_translation_beside.ensures.run head events here.drops
