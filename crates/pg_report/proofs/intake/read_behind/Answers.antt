use Rattle.std.proofs.Common.{sym, subst}
use Rattle.pg_event.specs.Spelling.{Recorded}
use Rattle.pg_report.specs.Going.{IsGoing}
use Rattle.pg_report.proofs.intake.read_behind.Goals as goal

pub returns-in-Ok-clause-reads : goal.returns-in-Ok-clause-reads
returns-in-Ok-clause-reads g c = λ newest start f going.
    let P : Recorded → Type 0 = λ h. IsGoing g.R.Source newest start f (c.args.reader.now.unread, c.args.source.now) c.args.reader.now.stage h 0 in
    c.in-Ok.ensures.whole newest start f (subst P (sym c.in_ok-history.ensures) going)

pub returns-in-Ok-clause-device : goal.returns-in-Ok-clause-device
returns-in-Ok-clause-device g c = λ newest start f going.
    let P : Recorded → Type 0 = λ h. IsGoing g.R.Source newest start f (c.args.reader.now.unread, c.args.source.now) c.args.reader.now.stage h 0 in
    c.in-Ok.ensures.device newest start f (subst P (sym c.in_ok-history.ensures) going)

pub returns-in-Err-clause-reads : goal.returns-in-Err-clause-reads
returns-in-Err-clause-reads g c = λ newest start f going.
    let P : Recorded → Type 0 = λ h. IsGoing g.R.Source newest start f (c.args.reader.now.unread, c.args.source.now) c.args.reader.now.stage h 0 in
    c.in-Err.ensures.refused newest start f (subst P (sym c.in_ok-history.ensures) going)

pub returns-in-Err-clause-device : goal.returns-in-Err-clause-device
returns-in-Err-clause-device g c = λ newest start f going.
    let P : Recorded → Type 0 = λ h. IsGoing g.R.Source newest start f (c.args.reader.now.unread, c.args.source.now) c.args.reader.now.stage h 0 in
    c.in-Err.ensures.device newest start f (subst P (sym c.in_ok-history.ensures) going)
