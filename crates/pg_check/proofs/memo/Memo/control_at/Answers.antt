use Rattle.std.proofs.Common.{sym, subst}
use Rattle.pg_chain.specs.declared.past.Past.{Past}
use Rattle.pg_chain.specs.Standing.{IsPast}
use Rattle.pg_check.specs.Remembered.{HaveWalks}
use Rattle.pg_check.proofs.memo.Memo.control_at.Goals as goal

pub invariant_of-self : goal.invariant_of-self
invariant_of-self c = subst (λ (x : Past). HaveWalks x c.self.inside.limit c.self.inside.kept.slots.items) (sym c.control_at.ensures.past) c.self.invariant

pub returns-clause-run : goal.returns-clause-run
returns-clause-run c = λ head events h. c.control_at.ensures.run head events (subst (λ (x : Past). IsPast x head events) (sym c.self.view_is) h)
