use Rattle.std.proofs.Common.{subst}
use Rattle.pg_chain.specs.declared.past.Past.{Past}
use Rattle.pg_chain.specs.Standing.{IsPast}
use Rattle.pg_check.proofs.memo.Memo.remember.Goals as goal

pub invariant_of-self : goal.invariant_of-self
invariant_of-self c =
    let memo = c.self.inside in
    c.room_for-place.ensures.walks memo.reader memo.limit c.self.invariant

pub keep-requires : goal.keep-requires
keep-requires c = λ head events h. c.requires head events (subst (λ (x : Past). IsPast x head events) c.self.view_is h)
