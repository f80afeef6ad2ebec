use borrow.Author.Rules.{rules}
use Rattle.std.proofs.Common.{◌≡◌, ◌++◌, arith}
use Rattle.pg_event.specs.Spelling.{Recorded}
use Rattle.pg_report.proofs.Ahead.{goes_on, may_go_on, stops, next_fails}
use Rattle.pg_report.proofs.judging_by.judge_and_read.Goals as goal

pub judge_beside-judging-requires-clause-next : goal.judge_beside-judging-requires-clause-next
judge_beside-judging-requires-clause-next g c κs within =
    let waits = c.requires.waits in
    may_go_on g.R.Source waits.0 waits.1 _ _ waits.2 c.args.team c.args.window.now waits.3

pub returns-in-Ok-judging-clause-goes : goal.returns-in-Ok-judging-clause-goes
returns-in-Ok-judging-clause-goes g c = λ start f windows h.
    let done = c.judge_beside-judging.result.1.0 in
    let reader : c.reader-1.given.0 ≡ done.reader.now = search rules in
    let source : c.source-1.given.0 ≡ done.source.now = search rules in
    let next : c.next-1.given.0 ≡ done.window.now = search rules in
    let r : Recorded = record { head = c.args.team.judged.head; events = h.judging.before ++ c.args.window.now } in
    let reads = rw c.in-Ok.is at (c.judge_beside-judging.ensures.beside.3 start f r windows h.judging.going) in
    let team = rw c.in-Ok-judging.is at (c.judge_beside-judging.ensures.ok c.args.team.judged.head h.judging.before h.alike) in
    rw (reader, source, next) (goes_on g.R.Source start f _ _ windows r.head r.events _ c.in-Ok-judging.team team c.in-Ok.more reads)

pub returns-in-Err-judging-clause-goes : goal.returns-in-Err-judging-clause-goes
returns-in-Err-judging-clause-goes g c = λ start f windows h.
    let done = c.judge_beside-judging.result.1.0 in
    let reader : c.reader-1.given.0 ≡ done.reader.now = search rules in
    let source : c.source-1.given.0 ≡ done.source.now = search rules in
    let next : c.next-1.given.0 ≡ done.window.now = search rules in
    let r : Recorded = record { head = c.args.team.judged.head; events = h.judging.before ++ c.args.window.now } in
    let reads = rw c.in-Ok.is at (c.judge_beside-judging.ensures.beside.3 start f r windows h.judging.going) in
    rw (reader, source, next) (stops g.R.Source start f _ _ windows r _ c.in-Ok.more reads c.in-Err-judging.error (rw c.in-Err-judging.is at c.judge_beside-judging.ensures.err))

pub returns-in-Err-clause-goes : goal.returns-in-Err-clause-goes
returns-in-Err-clause-goes g c = λ start f windows h.
    let done = c.judge_beside-judging.result.1.0 in
    let reader : c.reader-1.given.0 ≡ done.reader.now = search rules in
    let source : c.source-1.given.0 ≡ done.source.now = search rules in
    let next : c.next-1.given.0 ≡ done.window.now = search rules in
    let r : Recorded = record { head = c.args.team.judged.head; events = h.judging.before ++ c.args.window.now } in
    let reads = rw c.in-Err.is at (c.judge_beside-judging.ensures.beside.3 start f r windows h.judging.going) in
    rw (reader, source, next) (next_fails g.R.Source start f _ _ windows r _ c.in-Err.error reads)

-- the window asks for at most 65,536 events, and a segment has no more
pub returns-in-Ok-judging-clause-few : goal.returns-in-Ok-judging-clause-few
returns-in-Ok-judging-clause-few g c =
    let waits = c.requires.waits in
    let h = waits.3 in
    let done = c.judge_beside-judging.result.1.0 in
    let next : c.next-1.given.0 ≡ done.window.now = search rules in
    let r : Recorded = record { head = c.args.team.judged.head; events = h.judging.before ++ c.args.window.now } in
    let few = rw c.in-Ok.is at (c.judge_beside-judging.ensures.beside.4 waits.0 waits.1 r waits.2 h.judging.going) in
    rw next (omega (arith, few, h.alike.valid.limit, c.next_size.ensures.most))
