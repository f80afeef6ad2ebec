use Rattle.std.proofs.Common.{ℕ, refl, sym, ap, subst, ◌∙◌}
use Rattle.pg_event.specs.declared.event.Want.{Want}
use Rattle.pg_chain.specs.declared.past.Past.{Past}
use Rattle.pg_chain.specs.Standing.{IsPast}
use Rattle.pg_event.specs.declared.event.Want.TheVariants as wants
use Rattle.pg_check.specs.Lasting.{IsWalk}
use Rattle.pg_check.specs.Remembered.{page_bits, page_start}
use Rattle.pg_check.proofs.Pages.{walk_of_page}
use Rattle.pg_check.proofs.memo.Memo.walk.Goals as goal

pub returns-then-may_be_kept-clause-walk : goal.returns-then-may_be_kept-clause-walk
returns-then-may_be_kept-clause-walk c = λ head events h.
    let ws = c.args.moments.now in
    subst (λ (w : Want). IsWalk head events c.args.claim.now.p c.args.claim.now.la w ws c.page_walk.result) (sym (c.if-may_be_kept.ensures refl))
    (walk_of_page head events c.args.claim.now.p c.args.claim.now.la wants.Leaf ws c.page_walk.result (rw (← c.len-levels.ensures.length) c.len-levels.ensures.within.1)
    (subst (λ (page : ℕ). IsWalk head events c.args.claim.now.p page wants.Leaf ws c.page_walk.result)
    (c.page_of-page.ensures ∙ ap (λ n. page_start (page_bits n) c.args.claim.now.la) c.len-levels.ensures.length) (c.page_walk.ensures.walk head events h)))

pub returns-else-may_be_kept-clause-walk : goal.returns-else-may_be_kept-clause-walk
returns-else-may_be_kept-clause-walk c = λ head events h.
    c.lasting_walk.ensures.walk head events (subst (λ (x : Past). IsPast x head events) (sym c.self-else-may_be_kept.view_is) h)
