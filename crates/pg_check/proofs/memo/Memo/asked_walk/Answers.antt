use Rattle.std.proofs.Common.{Ok, sym, ap, subst, ◌∙◌}
use Rattle.pg_chain.specs.declared.past.Past.{Past}
use Rattle.pg_chain.specs.declared.steps.Chain.{Chain}
use Rattle.pg_chain.specs.Standing.{IsPast}
use Rattle.pg_check.specs.Remembered.{HaveWalks}
use Rattle.pg_check.proofs.memo.Memo.asked_walk.Goals as goal

pub invariant_of-self : goal.invariant_of-self
invariant_of-self c = subst (λ (x : Past). HaveWalks x c.self.inside.limit c.self.inside.kept.slots.items) (sym c.asked_up_to-known.ensures.past) c.self.invariant

pub keep-requires : goal.keep-requires
keep-requires c = λ head events h.
    let was : IsPast c.self.inside.reader head events = subst (λ (x : Past). IsPast x head events) c.asked_up_to-known.ensures.past h in
    let walk = c.requires head events (subst (λ (x : Past). IsPast x head events) c.self.view_is was) in (
      walk.0 ∙ ap (λ (x : Chain). Ok x) (sym c.asked_up_to-known.ensures.chain),
      c.asked_up_to-known.ensures.lasting head events was walk.1,
    )

pub returns-clause-walk : goal.returns-clause-walk
returns-clause-walk c = λ head events h.
    let walk = c.requires head events h in (
      walk.0 ∙ ap (λ (x : Chain). Ok x) (sym c.asked_up_to-known.ensures.chain),
      c.asked_up_to-known.ensures.lasting head events (subst (λ (x : Past). IsPast x head events) (sym c.self.view_is) h) walk.1,
    )
