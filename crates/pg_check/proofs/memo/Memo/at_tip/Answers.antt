use Rattle.std.proofs.Common.{sym, subst}
use Rattle.pg_chain.specs.declared.past.Past.{Past}
use Rattle.pg_check.specs.Remembered.{HaveWalks}
use Rattle.pg_check.proofs.memo.Memo.at_tip.Goals as goal

pub invariant_of-result : goal.invariant_of-result
invariant_of-result c =
    subst (λ (x : Past). HaveWalks x c.args.number c.make_room.new.self.slots.items) (sym c.new.ensures) (c.make_room.ensures.walks c.args.past.now c.args.number c.requires)
