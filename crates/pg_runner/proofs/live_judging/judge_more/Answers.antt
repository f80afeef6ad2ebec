use Rattle.std.proofs.Common.{◌∙◌, ap, arith}
use Rattle.pg_check.specs.Judging.{Findings}
use Rattle.pg_runner.proofs.WholeSegments.{more_follows, watched_more}
use Rattle.pg_runner.proofs.live_judging.judge_more.Goals as goal

pub judge-requires-clause-next : goal.judge-requires-clause-next
judge-requires-clause-next g c = λ _ _.
    let w = c.requires.watched in
    more_follows c.args.team w.0 c.args.more.now w.1 c.requires.segments.well (omega (arith, w.1.team.judged.count, c.if-more-saturating_sub.false, c.saturating_sub.ensures, c.len.ensures.count ∙ ap (λ (f : Findings). f.count) c.judged.ensures))

pub returns-in-Ok-clause-ok : goal.returns-in-Ok-clause-ok
returns-in-Ok-clause-ok g c = λ events watched.
    watched_more c.args.team c.in-Ok.after events c.args.more.now watched (c.in-Ok.ensures.ok c.args.team.judged.head events watched.team) c.requires.segments.whole
