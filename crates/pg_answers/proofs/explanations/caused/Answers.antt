use Rattle.std.proofs.Common.{◌≡◌, ap, refl, sym, ◌∙◌}
use Rattle.pg_event.specs.Witness.{first_bad}
use Rattle.pg_report.specs.declared.report.Report.{Report}
use Rattle.pg_report.specs.declared.report.Verdict.TheVariants.{Yes, No}
use Rattle.pg_report.specs.Text.{verdict_of}
use Rattle.pg_answers.proofs.UpTo.{run_before}
use Rattle.pg_report.proofs.Bad.{bad_is_within, bad_is_unwitnessed, told_bad, told_good}
use Rattle.pg_answers.proofs.explanations.caused.Goals as goal

pub cause_of-requires-clause-within : goal.cause_of-requires-clause-within
cause_of-requires-clause-within c =
    let head = c.args.history.head in
    let events = c.args.history.events in
    let is : verdict_of (first_bad head events) ≡ No c.in-No.event c.in-No.reason = ap (λ (x : Report). x.verdict) (sym c.report_of-report.ensures) ∙ c.in-No.is in
    bad_is_within head events c.in-No.event c.in-No.reason (told_bad (first_bad head events) c.in-No.event c.in-No.reason is)

pub cause_of-requires-clause-bad : goal.cause_of-requires-clause-bad
cause_of-requires-clause-bad c =
    let head = c.args.history.head in
    let events = c.args.history.events in
    let is : verdict_of (first_bad head events) ≡ No c.in-No.event c.in-No.reason = ap (λ (x : Report). x.verdict) (sym c.report_of-report.ensures) ∙ c.in-No.is in
    bad_is_unwitnessed head events c.in-No.event c.in-No.reason (told_bad (first_bad head events) c.in-No.event c.in-No.reason is)

pub returns-in-Yes : goal.returns-in-Yes
returns-in-Yes c =
    let head = c.args.history.head in
    let events = c.args.history.events in
    let is : verdict_of (first_bad head events) ≡ Yes = ap (λ (x : Report). x.verdict) (sym c.report_of-report.ensures) ∙ c.in-Yes.is in
    (c.report_of-report.ensures, told_good (first_bad head events) is)

pub allowed_in-requires : goal.allowed_in-requires
allowed_in-requires c =
    let head = c.args.history.head in
    let events = c.args.history.events in
    let is : verdict_of (first_bad head events) ≡ No c.in-No.event c.in-No.reason = ap (λ (x : Report). x.verdict) (sym c.report_of-report.ensures) ∙ c.in-No.is in
    bad_is_within head events c.in-No.event c.in-No.reason (told_bad (first_bad head events) c.in-No.event c.in-No.reason is)

pub returns-in_ok-allowed-in-No : goal.returns-in_ok-allowed-in-No
returns-in_ok-allowed-in-No c =
    let head = c.args.history.head in
    let events = c.args.history.events in
    let is : verdict_of (first_bad head events) ≡ No c.in-No.event c.in-No.reason = ap (λ (x : Report). x.verdict) (sym c.report_of-report.ensures) ∙ c.in-No.is in (
      c.report_of-report.ensures,
      refl,
      c.in-No.event,
      c.in-No.reason,
      told_bad (first_bad head events) c.in-No.event c.in-No.reason is,
      c.in_ok-cause-in-No.ensures,
      c.in_ok-allowed-in-No.ensures,
      run_before c.accepted_events_run.ensures head events c.in-No.event c.in-No.reason c.events-events.ensures.well (told_bad (first_bad head events) c.in-No.event c.in-No.reason is),
    )
