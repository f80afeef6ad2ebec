use Rattle.std.proofs.Common.{sym, subst}
use Rattle.pg_chain.specs.declared.past.Past.{Past}
use Rattle.pg_chain.specs.Standing.{IsPast}
use Rattle.pg_check.specs.Remembered.{HaveWalks}
use Rattle.pg_check.proofs.memo.Memo.walk_anew.Goals as goal

pub invariant_of-self : goal.invariant_of-self
invariant_of-self c = subst (λ (x : Past). HaveWalks x c.self.inside.limit c.self.inside.kept.slots.items) (sym c.lasting_walk.ensures.past) c.self.invariant

pub remember-requires : goal.remember-requires
remember-requires c = λ head events h.
    c.in-Ok.ensures.walk head events (subst (λ (x : Past). IsPast x head events) c.lasting_walk.ensures.past h)

pub returns-in-Ok-clause-walk : goal.returns-in-Ok-clause-walk
returns-in-Ok-clause-walk c = λ head events h.
    c.in-Ok.ensures.walk head events (subst (λ (x : Past). IsPast x head events) (sym c.self.view_is) h)

pub returns-in-Err-clause-walk : goal.returns-in-Err-clause-walk
returns-in-Err-clause-walk c = λ head events h.
    c.in-Err.ensures.walk head events (subst (λ (x : Past). IsPast x head events) (sym c.self.view_is) h)

pub invariant_of-self-in-Err : goal.invariant_of-self-in-Err
invariant_of-self-in-Err c = subst (λ (x : Past). HaveWalks x c.self.inside.limit c.self.inside.kept.slots.items) (sym c.lasting_walk.ensures.past) c.self.invariant
