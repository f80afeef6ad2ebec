use Rattle.std.proofs.Common.{[], refl}
use Rattle.pg_event.specs.declared.version.Version.TheVariants.{Two}
use Rattle.pg_event.specs.Spelling.{Recorded}
use Rattle.pg_report.proofs.Continuing.{fresh_header_fails, going_from_fresh}
use Rattle.pg_report.proofs.Ahead.{team_at_start}
use Rattle.pg_report.proofs.Windows.{error_judges}
use Rattle.pg_report.proofs.judging_by.judge_record_by.Goals as goal

pub returns-in-Err-clause-judges : goal.returns-in-Err-clause-judges
returns-in-Err-clause-judges g c =
    error_judges _ c.in-Err.error c.audit_error.result c.audit_error.ensures
    (fresh_header_fails g.R.Source Two c.in_ok-reader.reader _ _ c.in_ok-reader.ensures c.in-Err.error c.audit_error.result c.audit_error.ensures c.in-Err.ensures.pulls)

pub judge_rest-requires-clause-going : goal.judge_rest-requires-clause-going
judge_rest-requires-clause-going g c κs within =
    let read = c.in-Ok.ensures in
    let r : Recorded = record { head = c.in-Ok.header; events = [] } in (
      g.R.Source.left c.args.source.now,
      g.R.Source.failed c.args.source.now,
      team_at_start g.R.Source _ _ _ _ c.in_ok-team.team c.in-Ok.header c.in_ok-team.ensures.team
          (going_from_fresh g.R.Source Two c.in_ok-reader.reader _ _ c.in_ok-reader.ensures c.in-Ok.header _ read.pulls read.stage r refl),
    )

pub returns-clause-judges : goal.returns-clause-judges
returns-clause-judges g c =
    let read = c.in-Ok.ensures in
    let r : Recorded = record { head = c.in-Ok.header; events = [] } in
    c.judge_rest.ensures.judges (g.R.Source.left c.args.source.now) (g.R.Source.failed c.args.source.now) (team_at_start g.R.Source _ _ _ _ c.in_ok-team.team c.in-Ok.header c.in_ok-team.ensures.team
    (going_from_fresh g.R.Source Two c.in_ok-reader.reader _ _ c.in_ok-reader.ensures c.in-Ok.header _ read.pulls read.stage r refl))

pub returns-clause-device : goal.returns-clause-device
returns-clause-device g c =
    let read = c.in-Ok.ensures in
    let r : Recorded = record { head = c.in-Ok.header; events = [] } in
    c.judge_rest.ensures.device (g.R.Source.left c.args.source.now) (g.R.Source.failed c.args.source.now) (team_at_start g.R.Source _ _ _ _ c.in_ok-team.team c.in-Ok.header c.in_ok-team.ensures.team
    (going_from_fresh g.R.Source Two c.in_ok-reader.reader _ _ c.in_ok-reader.ensures c.in-Ok.header _ read.pulls read.stage r refl))
