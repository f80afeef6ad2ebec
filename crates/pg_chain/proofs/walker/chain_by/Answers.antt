use Rattle.std.proofs.Common.{◌≡◌, true, false, List, Some, None, sym, ap, subst, ◌∙◌, refl, arith}
use Rattle.pg_entry.specs.declared.Level.TheVariants.{Four}
use Rattle.pg_event.specs.declared.control.Control.{Control}
use Rattle.pg_event.specs.Witness.{is_one_context}
use Rattle.pg_chain.specs.Walked.{chain_of, structures_kept}
use Rattle.pg_chain.proofs.Walks.{chain_of-known, drop-moment}
use Rattle.pg_event.specs.declared.event.Event.{Event}
use Rattle.pg_event.specs.Heads.{Head}
use Rattle.pg_chain.specs.declared.past.Past.{Past}
use Rattle.pg_chain.specs.Standing.{IsPast}
use Rattle.pg_chain.proofs.walker.chain_by.Goals as goal

-- a past that is the same stands for the same run
moved : {old new : Past} {head : Head} {events : List Event} → old ≡ new → IsPast old head events → IsPast new head events
moved {head = head} {events = events} e h = subst (λ (x : Past). IsPast x head events) e h

pub returns-in_default-clause-chain : goal.returns-in_default-clause-chain
returns-in_default-clause-chain c = λ head events h.
    let ws = c.as_slice-all.result.now in
    let pcid = c.control_at-start.result.pcid in
    chain_of-known head events c.args.p c.args.la c.args.want _ ws _ c.control_at-start.result None
    (is_one_context head events c.args.p pcid ws) (structures_kept head events c.args.p pcid c.args.la Four ws)
    (drop-moment ws 0 (omega (arith, c.as_slice-all.ensures.within)))
    (c.control_at-start.ensures.run head events h)
    (sym c.in_default.is ∙ c.wanted_end.ensures.end head events (moved (sym c.control_at-start.ensures.past) h)) refl refl
    ∙ ap (λ zs. chain_of head events c.args.p c.args.la zs c.args.want) c.as_slice-all.ensures.moments

pub is_one_context-requires-clause-known : goal.is_one_context-requires-clause-known
is_one_context-requires-clause-known c = λ head events h. ap (λ (x : Control). x.pcid)
    (sym (c.control_at-start.ensures.run head events (moved (c.wanted_end.ensures.past ∙ c.control_at-start.ensures.past) h)))

pub returns-then-not-is_one_context-clause-chain : goal.returns-then-not-is_one_context-clause-chain
returns-then-not-is_one_context-clause-chain c = λ head events h.
    let ws = c.as_slice-all.result.now in
    let pcid = c.control_at-start.result.pcid in
    chain_of-known head events c.args.p c.args.la c.args.want _ ws _ c.control_at-start.result (Some c.in-Some.chain)
    false (structures_kept head events c.args.p pcid c.args.la Four ws)
    (drop-moment ws 0 (omega (arith, c.as_slice-all.ensures.within)))
    (c.control_at-start.ensures.run head events h)
    (sym c.in-Some.is ∙ c.wanted_end.ensures.end head events (moved (sym c.control_at-start.ensures.past) h))
    (sym c.if-not-is_one_context.true ∙ c.is_one_context.ensures.context head events (moved (sym (c.wanted_end.ensures.past ∙ c.control_at-start.ensures.past)) h)) refl
    ∙ ap (λ zs. chain_of head events c.args.p c.args.la zs c.args.want) c.as_slice-all.ensures.moments

pub returns-then-not-structures_survive-clause-chain : goal.returns-then-not-structures_survive-clause-chain
returns-then-not-structures_survive-clause-chain c = λ head events h.
    let ws = c.as_slice-all.result.now in
    chain_of-known head events c.args.p c.args.la c.args.want _ ws _ c.control_at-start.result (Some c.in-Some.chain) true false
    (drop-moment ws 0 (omega (arith, c.as_slice-all.ensures.within)))
    (c.control_at-start.ensures.run head events h)
    (sym c.in-Some.is ∙ c.wanted_end.ensures.end head events (moved (sym c.control_at-start.ensures.past) h))
    (sym c.if-not-is_one_context.false ∙ c.is_one_context.ensures.context head events (moved (sym (c.wanted_end.ensures.past ∙ c.control_at-start.ensures.past)) h))
    (sym c.if-not-structures_survive.true ∙ c.structures_survive.ensures.kept head events
    (moved (sym (c.is_one_context.ensures.past ∙ c.wanted_end.ensures.past ∙ c.control_at-start.ensures.past)) h))
    ∙ ap (λ zs. chain_of head events c.args.p c.args.la zs c.args.want) c.as_slice-all.ensures.moments

pub returns-clause-chain : goal.returns-clause-chain
returns-clause-chain c = λ head events h.
    let ws = c.as_slice-all.result.now in
    chain_of-known head events c.args.p c.args.la c.args.want _ ws _ c.control_at-start.result (Some c.in-Some.chain) true true
    (drop-moment ws 0 (omega (arith, c.as_slice-all.ensures.within)))
    (c.control_at-start.ensures.run head events h)
    (sym c.in-Some.is ∙ c.wanted_end.ensures.end head events (moved (sym c.control_at-start.ensures.past) h))
    (sym c.if-not-is_one_context.false ∙ c.is_one_context.ensures.context head events (moved (sym (c.wanted_end.ensures.past ∙ c.control_at-start.ensures.past)) h))
    (sym c.if-not-structures_survive.false ∙ c.structures_survive.ensures.kept head events
    (moved (sym (c.is_one_context.ensures.past ∙ c.wanted_end.ensures.past ∙ c.control_at-start.ensures.past)) h))
    ∙ ap (λ zs. chain_of head events c.args.p c.args.la zs c.args.want) c.as_slice-all.ensures.moments
