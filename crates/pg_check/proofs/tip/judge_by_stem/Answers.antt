use Rattle.std.proofs.Common.{sym, ap}
use Rattle.pg_event.specs.declared.control.Control.{Control}
use Rattle.pg_check.proofs.tip.judge_by_stem.Goals as goal

pub judge_by_chain-requires-clause-current : goal.judge_by_chain-requires-clause-current
judge_by_chain-requires-clause-current c = λ head events h.
    ap (λ (x : Control). x.pcid) (sym (c.latest_control-current.ensures.run c.args.claim.now.number c.requires.next head events h))
