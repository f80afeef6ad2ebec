use Rattle.std.proofs.Common.{◌-◌, ◌^◌, not, ap, sym, subst, ◌∙◌}
use Rattle.pg_event.specs.Witness.{structure_survives}
use Rattle.pg_inval.specs.declared.space.Space.{Space}
use Rattle.pg_inval.specs.Spaces.{IsSpaceDrop, space_keys, structure_space}
use Rattle.pg_inval.specs.Lists.{has_among}
use Rattle.pg_inval.proofs.AnyFrom.{not-not}
use Rattle.pg_chain.specs.declared.past.Past.{Past}
use Rattle.pg_chain.specs.Standing.{IsPast}
use Rattle.pg_chain.proofs.reader.Reader.survives_in.Goals as goal

pub returns-then-is_empty-clause-run : goal.returns-then-is_empty-clause-run
returns-then-is_empty-clause-run c = λ head events h.
    c.structure_survives_counted.ensures.run head events (subst (λ (x : Past). IsPast x head events) (sym c.self.view_is) h)

pub structure_dropped_beside-requires-clause-found : goal.structure_dropped_beside-requires-clause-found
structure_dropped_beside-requires-clause-found c =
    let a = c.args in
    subst (λ (x : Past). IsSpaceDrop x.drops (structure_space a.p a.key) a.window.from a.window.to c.below-found.result)
    (sym (c.self-2.view_is ∙ c.space_drop-all.ensures.past))
    (c.below-found.ensures (has_among a.self.now.drops.entries (space_keys (structure_space a.p a.key))) a.window.from
    (subst (λ (x : Space). IsSpaceDrop a.self.now.drops x a.window.from (2 ^ 32 - 1) c.space_drop-all.result) c.structure_space.ensures c.space_drop-all.ensures.drop))

pub returns-clause-run : goal.returns-clause-run
returns-clause-run c = λ head events h.
    let a = c.args in
    let here = subst (λ (x : Past). IsPast x head events) (sym (c.self-2.view_is ∙ c.space_drop-all.ensures.past)) h in
    ap not (c.structure_dropped_beside.ensures.run head events here.drops)
    ∙ not-not (structure_survives head events a.p a.key a.window.from a.window.to)
