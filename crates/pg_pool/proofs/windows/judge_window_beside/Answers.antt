use Rattle.std.proofs.Common.{◌≡◌, map, subst}
use Rattle.pg_check.specs.Segments.{segment_verdict}
use Rattle.pg_check.specs.Windows.{with_window}
use Rattle.pg_pool.specs.declared.round.Round.{Round}
use Rattle.pg_pool.specs.Rounds.{numbers}
use Rattle.pg_pool.proofs.Fitting.{all_fit}
use Rattle.pg_pool.proofs.Verdicts.{are_those_of}
use Rattle.pg_pool.proofs.windows.judge_window_beside.Goals as goal

pub judge_round-outcome-requires-clause-fits : goal.judge_round-outcome-requires-clause-fits
judge_round-outcome-requires-clause-fits g c κs within =
    let may = c.requires.next in
    (with_window may.0 may.1 c.args.window.now, all_fit may.0 may.1 c.args.window.now c.args.judges.items may.2)

pub returns-in-Ok-clause-ok : goal.returns-in-Ok-clause-ok
returns-in-Ok-clause-ok g c = λ head before may.
    let w = c.args.window.now in
    let run = with_window head before w in
    let fit = all_fit head before w c.args.judges.items may in
    let verdicts : c.in-Ok.outcome.verdicts.items ≡ map (segment_verdict run) (numbers c.round_of-round.result) =
    are_those_of run c.round_of-round.result c.in-Ok.outcome.verdicts.items (rw c.in-Ok.is at (c.judge_round-outcome.ensures.verdicts run fit)) in
    let ends = rw c.in-Ok.is at (c.judge_round-outcome.ensures.ends run fit) in
    record {
      round = c.round_of-round.ensures;
      verdicts = subst (λ (r : Round). c.in-Ok.outcome.verdicts.items ≡ map (segment_verdict run) (numbers r)) c.round_of-round.ensures verdicts;
      judges = λ k d less. (ends k d less).1;
    }
