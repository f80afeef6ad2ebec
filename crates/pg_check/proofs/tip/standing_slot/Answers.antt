use Rattle.std.proofs.Common.{ℕ, List, Some, Ok, refl, ap, subst, ◌∙◌}
use Rattle.pg_event.specs.declared.event.Want.TheVariants as wants
use Rattle.pg_check.specs.Lasting.{IsWalk}
use Rattle.pg_check.specs.Remembered.{HasWalk, page_bits, page_start, lasting_to}
use Rattle.pg_check.proofs.Pages.{walk_of_page}
use Rattle.pg_check.proofs.Memos.{lasts_to}
use Rattle.pg_check.proofs.tip.standing_slot.Goals as goal

pub outlasts-requires : goal.outlasts-requires
outlasts-requires c = (c.in-Some.ensures.walk c.args.past.now c.args.claim.now.number c.requires).0.shift

pub returns-then-outlasts-clause-within : goal.returns-then-outlasts-clause-within
returns-then-outlasts-clause-within c = ((c.in-Some.ensures.walk c.args.past.now c.args.claim.now.number c.requires).0, c.in-Some.ensures.names.2)

pub returns-then-outlasts-clause-leaf : goal.returns-then-outlasts-clause-leaf
returns-then-outlasts-clause-leaf c = λ head events h. (c.in-Some.ensures.walk c.args.past.now c.args.claim.now.number c.requires).2 head events h

pub returns-then-outlasts-clause-walk : goal.returns-then-outlasts-clause-walk
returns-then-outlasts-clause-walk c = λ head events h.
    let claim = c.args.claim.now in
    let ws = c.args.moments.now in
    let s = c.in-Some.slot in
    let l = lasting_to claim.number s in
    let names = c.in-Some.ensures.names in
    let has : HasWalk c.args.past.now claim.number (Some s) = c.in-Some.ensures.walk c.args.past.now claim.number c.requires in
    let is = lasts_to c.args.past.now claim.number s claim.number has (c.if-outlasts.ensures.found refl) head events h (c.if-outlasts.ensures.run refl claim.number head events h) in
    walk_of_page head events claim.p claim.la wants.Leaf ws (Ok l) (rw (← c.len-levels.ensures.length) c.len-levels.ensures.within.1)
    (subst (λ (page : ℕ). IsWalk head events claim.p page wants.Leaf ws (Ok l))
    (c.page_of-page.ensures ∙ ap (λ n. page_start (page_bits n) claim.la) c.len-levels.ensures.length)
    (subst (λ (vs : List ℕ). IsWalk head events claim.p c.page_of-page.result wants.Leaf vs (Ok l)) names.2
    (subst (λ (page : ℕ). IsWalk head events claim.p page wants.Leaf s.moments (Ok l)) names.1
    (subst (λ (p : ℕ). IsWalk head events p s.page wants.Leaf s.moments (Ok l)) names.0 is))))
