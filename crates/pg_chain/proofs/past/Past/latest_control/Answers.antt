use Rattle.std.proofs.Common.{arith}
use Rattle.pg_chain.proofs.past.Past.latest_control.Goals as goal

pub returns-clause-run : goal.returns-clause-run
returns-clause-run c = λ moment next head events h.
    c.latest.ensures.run head events h.controls moment (omega (arith, next.stands.controls.next, next.count))
