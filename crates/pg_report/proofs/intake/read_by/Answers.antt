use Rattle.std.proofs.Common.{[], refl}
use Rattle.pg_report.proofs.Continuing.{fresh_header_fails, going_from_fresh}
use Rattle.pg_report.proofs.intake.read_by.Goals as goal

pub returns-in-Err-clause-reads : goal.returns-in-Err-clause-reads
returns-in-Err-clause-reads g c =
    fresh_header_fails g.R.Source c.args.newest c.args.reader.now _ _ c.requires c.in-Err.error c.audit_error.result c.audit_error.ensures c.in-Err.ensures.pulls

pub returns-in-Ok-clause-reads : goal.returns-in-Ok-clause-reads
returns-in-Ok-clause-reads g c =
    let read = c.in-Ok.ensures in
    c.read_behind.ensures.reads c.args.newest (g.R.Source.left c.args.source.now) (g.R.Source.failed c.args.source.now)
    (going_from_fresh g.R.Source c.args.newest c.args.reader.now _ _ c.requires c.in-Ok.header _ read.pulls read.stage (record { head = c.in-Ok.header; events = [] }) refl)

pub returns-in-Ok-clause-device : goal.returns-in-Ok-clause-device
returns-in-Ok-clause-device g c =
    let read = c.in-Ok.ensures in
    c.read_behind.ensures.device c.args.newest (g.R.Source.left c.args.source.now) (g.R.Source.failed c.args.source.now)
    (going_from_fresh g.R.Source c.args.newest c.args.reader.now _ _ c.requires c.in-Ok.header _ read.pulls read.stage (record { head = c.in-Ok.header; events = [] }) refl)
