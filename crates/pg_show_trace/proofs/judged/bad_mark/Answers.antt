use Rattle.std.proofs.Common.{◌≡◌, ap, sym, ◌∙◌}
use Rattle.pg_event.specs.Witness.{first_bad}
use Rattle.pg_report.specs.declared.report.Report.{Report}
use Rattle.pg_report.specs.declared.report.Verdict.TheVariants.{Yes, No}
use Rattle.pg_report.specs.Text.{verdict_of}
use Rattle.pg_report.proofs.Bad.{bad_is_within, bad_is_unwitnessed, told_bad, told_good}
use Rattle.pg_show_trace.proofs.judged.bad_mark.Goals as goal

pub mark_of-requires-clause-within : goal.mark_of-requires-clause-within
mark_of-requires-clause-within c =
    let head = c.args.history.now.head in
    let events = c.args.history.now.events in
    let is : verdict_of (first_bad head events) ≡ No c.in-No.event c.in-No.reason = ap (λ (x : Report). x.verdict) (sym c.report_of.ensures) ∙ c.in-No.is in
    bad_is_within head events c.in-No.event c.in-No.reason (told_bad (first_bad head events) c.in-No.event c.in-No.reason is)

pub mark_of-requires-clause-bad : goal.mark_of-requires-clause-bad
mark_of-requires-clause-bad c =
    let head = c.args.history.now.head in
    let events = c.args.history.now.events in
    let is : verdict_of (first_bad head events) ≡ No c.in-No.event c.in-No.reason = ap (λ (x : Report). x.verdict) (sym c.report_of.ensures) ∙ c.in-No.is in
    bad_is_unwitnessed head events c.in-No.event c.in-No.reason (told_bad (first_bad head events) c.in-No.event c.in-No.reason is)

pub returns-in-Yes : goal.returns-in-Yes
returns-in-Yes c =
    let head = c.args.history.now.head in
    let events = c.args.history.now.events in
    let is : verdict_of (first_bad head events) ≡ Yes = ap (λ (x : Report). x.verdict) (sym c.report_of.ensures) ∙ c.in-Yes.is in
    told_good (first_bad head events) is

pub returns-in_ok-mark_of-in-No : goal.returns-in_ok-mark_of-in-No
returns-in_ok-mark_of-in-No c =
    let head = c.args.history.now.head in
    let events = c.args.history.now.events in
    let is : verdict_of (first_bad head events) ≡ No c.in-No.event c.in-No.reason = ap (λ (x : Report). x.verdict) (sym c.report_of.ensures) ∙ c.in-No.is in
    (c.in-No.event, c.in-No.reason, told_bad (first_bad head events) c.in-No.event c.in-No.reason is, c.in_ok-mark_of-in-No.ensures)
