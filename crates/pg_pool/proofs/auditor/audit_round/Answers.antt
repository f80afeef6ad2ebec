use Rattle.pg_pool.proofs.Verdicts.{are_those_of}
use Rattle.pg_pool.proofs.auditor.audit_round.Goals as goal

pub returns-in-Ok-clause-ok : goal.returns-in-Ok-clause-ok
returns-in-Ok-clause-ok g c = λ r is.
    are_those_of r c.args.round c.in-Ok.outcome.verdicts.items
    (rw c.in-Ok.is at (c.judge_round-outcome.ensures.verdicts r (λ k d less. (is, c.in_ok-memos.ensures.all k d less))))
