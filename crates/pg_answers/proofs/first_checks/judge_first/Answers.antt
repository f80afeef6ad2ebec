use Rattle.std.proofs.Common.{[], ap, refl}
use Rattle.pg_event.specs.declared.version.Version.TheVariants.{Two}
use Rattle.pg_event.specs.Spelling.{Recorded}
use Rattle.pg_codec.specs.Readers.{Reader}
use Rattle.pg_report.proofs.Continuing.{fresh_header_fails, going_from_fresh}
use Rattle.pg_report.proofs.Windows.{judging_at_start}
use Rattle.pg_answers.proofs.Accounted.{pulled_at_start}
use Rattle.pg_answers.proofs.FirstChecks.{reported}
use Rattle.pg_answers.proofs.first_checks.judge_first.Goals as goal

pub returns-in-Err-clause-judges : goal.returns-in-Err-clause-judges
returns-in-Err-clause-judges g c =
    let pulls = pulled_at_start g.R.Source c.in_ok-reader.reader.stage _ _ _ (ap (λ (x : Reader). x.stage) c.in_ok-reader.ensures) c.in-Err.ensures.pulls in
    fresh_header_fails g.R.Source Two c.in_ok-reader.reader _ _ c.in_ok-reader.ensures c.in-Err.error c.audit_error.result c.audit_error.ensures pulls

pub judge_up_to-requires : goal.judge_up_to-requires
judge_up_to-requires g c =
    let read = c.in-Ok.ensures in
    let r : Recorded = record { head = c.in-Ok.header; events = [] } in
    let pulls = pulled_at_start g.R.Source c.in_ok-reader.reader.stage _ _ _ (ap (λ (x : Reader). x.stage) c.in_ok-reader.ensures) read.pulls in
    record {
      going = (
        g.R.Source.left c.args.source.now,
        g.R.Source.failed c.args.source.now,
        judging_at_start g.R.Source _ _ _ _ c.in_ok-judged.judged c.in-Ok.header c.in_ok-judged.ensures
            (going_from_fresh g.R.Source Two c.in_ok-reader.reader _ _ c.in_ok-reader.ensures c.in-Ok.header _ pulls read.stage r refl),
      );
    }

pub returns-in-Ok-judge_up_to-clause-judges : goal.returns-in-Ok-judge_up_to-clause-judges
returns-in-Ok-judge_up_to-clause-judges g c =
    let read = c.in-Ok.ensures in
    let r : Recorded = record { head = c.in-Ok.header; events = [] } in
    let pulls = pulled_at_start g.R.Source c.in_ok-reader.reader.stage _ _ _ (ap (λ (x : Reader). x.stage) c.in_ok-reader.ensures) read.pulls in
    let start = g.R.Source.left c.args.source.now in
    let judged = c.in-Ok-judge_up_to.ensures.front start (g.R.Source.failed c.args.source.now) (judging_at_start g.R.Source _ _ _ _ c.in_ok-judged.judged c.in-Ok.header c.in_ok-judged.ensures
    (going_from_fresh g.R.Source Two c.in_ok-reader.reader _ _ c.in_ok-reader.ensures c.in-Ok.header _ pulls read.stage r refl)) in
    reported start c.judge_up_to.new.judged c.report_of_judged.result judged c.report_of_judged.ensures

pub returns-in-Ok-judge_up_to-clause-device : goal.returns-in-Ok-judge_up_to-clause-device
returns-in-Ok-judge_up_to-clause-device g c =
    let read = c.in-Ok.ensures in
    let r : Recorded = record { head = c.in-Ok.header; events = [] } in
    let pulls = pulled_at_start g.R.Source c.in_ok-reader.reader.stage _ _ _ (ap (λ (x : Reader). x.stage) c.in_ok-reader.ensures) read.pulls in
    c.in-Ok-judge_up_to.ensures.device (g.R.Source.left c.args.source.now) (g.R.Source.failed c.args.source.now) (judging_at_start g.R.Source _ _ _ _ c.in_ok-judged.judged c.in-Ok.header c.in_ok-judged.ensures
    (going_from_fresh g.R.Source Two c.in_ok-reader.reader _ _ c.in_ok-reader.ensures c.in-Ok.header _ pulls read.stage r refl))

pub returns-clause-judges : goal.returns-clause-judges
returns-clause-judges g c =
    let read = c.in-Ok.ensures in
    let r : Recorded = record { head = c.in-Ok.header; events = [] } in
    let pulls = pulled_at_start g.R.Source c.in_ok-reader.reader.stage _ _ _ (ap (λ (x : Reader). x.stage) c.in_ok-reader.ensures) read.pulls in
    c.in-Err-judge_up_to.ensures.refused (g.R.Source.left c.args.source.now) (g.R.Source.failed c.args.source.now) (judging_at_start g.R.Source _ _ _ _ c.in_ok-judged.judged c.in-Ok.header c.in_ok-judged.ensures
    (going_from_fresh g.R.Source Two c.in_ok-reader.reader _ _ c.in_ok-reader.ensures c.in-Ok.header _ pulls read.stage r refl))

pub returns-clause-device : goal.returns-clause-device
returns-clause-device g c =
    let read = c.in-Ok.ensures in
    let r : Recorded = record { head = c.in-Ok.header; events = [] } in
    let pulls = pulled_at_start g.R.Source c.in_ok-reader.reader.stage _ _ _ (ap (λ (x : Reader). x.stage) c.in_ok-reader.ensures) read.pulls in
    c.in-Err-judge_up_to.ensures.device (g.R.Source.left c.args.source.now) (g.R.Source.failed c.args.source.now) (judging_at_start g.R.Source _ _ _ _ c.in_ok-judged.judged c.in-Ok.header c.in_ok-judged.ensures
    (going_from_fresh g.R.Source Two c.in_ok-reader.reader _ _ c.in_ok-reader.ensures c.in-Ok.header _ pulls read.stage r refl))
