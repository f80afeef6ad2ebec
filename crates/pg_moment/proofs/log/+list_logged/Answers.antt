use Rattle.std.proofs.Common.{◌≤◌, ◌<◌, refl, sym, subst, arith}
use Rattle.pg_timeline.specs.Timelines.{end_of}
use Rattle.pg_timeline.proofs.Timelines.{end_of-below}
use Rattle.pg_moment.proofs.Logs.{older_at, is_last}
use Rattle.pg_moment.proofs.log.+list_logged.Goals as goal

pub push-requires : goal.push-requires
push-requires t c =
    let log = c.args.log.now in
    let o = older_at log c.args.place in
    let some : 0 < c.args.count = omega (arith, c.if-count-eq0.false) in
    let last = is_last log c.args.count c.args.place o some c.requires.logged refl in
    (omega arith, subst (λ xs. end_of xs ≤ o.moment) (sym c.in_ok-list.ensures) (end_of-below o.moment _ last.below))
