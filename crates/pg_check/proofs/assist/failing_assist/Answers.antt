use Rattle.std.proofs.Common.{sym, ap, subst, ◌∙◌}
use Rattle.pg_chain.specs.declared.past.Past.{Past}
use Rattle.pg_chain.specs.Standing.{IsPast}
use Rattle.pg_entry.specs.declared.Cfg.{Cfg}
use Rattle.pg_check.specs.Ends.{after_walk, failing_marks}
use Rattle.pg_check.proofs.Reasons.{failing_assist-walk}
use Rattle.pg_check.proofs.assist.failing_assist.Goals as goal

pub returns-in-Ok-clause-failing : goal.returns-in-Ok-clause-failing
returns-in-Ok-clause-failing c = λ head events h.
    let update = c.args.update.now in
    c.failing_marks.ensures
    ∙ ap (λ (x : Cfg). failing_marks x update c.in-Ok.chain) (c.cfg.ensures.run head events (subst (λ (x : Past). IsPast x head events) (sym (c.past.ensures ∙ c.walk.ensures.past)) h))
    ∙ ap (after_walk (failing_marks head.cfg update)) (sym c.in-Ok.is ∙ c.walk.ensures.walk head events h)
    ∙ failing_assist-walk head events update c.args.moments.now c.walk.ensures.some

pub returns-in-Err-clause-failing : goal.returns-in-Err-clause-failing
returns-in-Err-clause-failing c = λ head events h.
    let update = c.args.update.now in
    ap (after_walk (failing_marks head.cfg update)) (sym c.in-Err.is ∙ c.walk.ensures.walk head events h)
    ∙ failing_assist-walk head events update c.args.moments.now c.walk.ensures.some
