use Rattle.std.proofs.Common.{subst, arith}
use Rattle.pg_chain.specs.declared.past.Past.{Past}
use Rattle.pg_check.specs.Remembered.{HaveWalks}
use Rattle.pg_check.proofs.Grown.{walks_later}
use Rattle.pg_check.proofs.memo.Memo.into_slots.Goals as goal

pub returns-then-own-limit : goal.returns-then-own-limit
returns-then-own-limit c =
    let memo = c.self.inside in
    subst (λ (x : Past). HaveWalks x c.args.limit memo.kept.slots.items) c.self.view_is
    (walks_later memo.reader memo.limit c.args.limit memo.kept.slots.items (omega (arith, c.if-own-limit.true)) c.self.invariant)
