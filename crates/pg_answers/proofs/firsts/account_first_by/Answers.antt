use Rattle.std.proofs.Common.{[], ap, refl}
use Rattle.pg_event.specs.declared.version.Version.TheVariants.{Two}
use Rattle.pg_event.specs.Spelling.{Recorded}
use Rattle.pg_codec.specs.Readers.{Reader}
use Rattle.pg_report.proofs.Continuing.{fresh_header_fails, going_from_fresh}
use Rattle.pg_answers.proofs.Accounted.{accounting_at_start, pulled_at_start}
use Rattle.pg_answers.proofs.firsts.account_first_by.Goals as goal

pub returns-in-Err-clause-reads : goal.returns-in-Err-clause-reads
returns-in-Err-clause-reads g c =
    let pulls = pulled_at_start g.R.Source c.args.reader.now.stage _ _ _ (ap (λ (x : Reader). x.stage) c.requires) c.in-Err.ensures.pulls in
    fresh_header_fails g.R.Source Two c.args.reader.now _ _ c.requires c.in-Err.error c.audit_error.result c.audit_error.ensures pulls

pub account_up_to-requires : goal.account_up_to-requires
account_up_to-requires g c =
    let read = c.in-Ok.ensures in
    let r : Recorded = record { head = c.in-Ok.header; events = [] } in
    let pulls = pulled_at_start g.R.Source c.args.reader.now.stage _ _ _ (ap (λ (x : Reader). x.stage) c.requires) read.pulls in
    record {
      going = (
        g.R.Source.left c.args.source.now,
        g.R.Source.failed c.args.source.now,
        accounting_at_start g.R.Source _ _ _ _ c.in_ok-account.account c.in-Ok.header c.in_ok-account.ensures
            (going_from_fresh g.R.Source Two c.args.reader.now _ _ c.requires c.in-Ok.header _ pulls read.stage r refl),
      );
    }

pub returns-in-Err-account_up_to-clause-reads : goal.returns-in-Err-account_up_to-clause-reads
returns-in-Err-account_up_to-clause-reads g c =
    let read = c.in-Ok.ensures in
    let r : Recorded = record { head = c.in-Ok.header; events = [] } in
    let pulls = pulled_at_start g.R.Source c.args.reader.now.stage _ _ _ (ap (λ (x : Reader). x.stage) c.requires) read.pulls in
    c.in-Err-account_up_to.ensures.refused (g.R.Source.left c.args.source.now) (g.R.Source.failed c.args.source.now) (accounting_at_start g.R.Source _ _ _ _ c.in_ok-account.account c.in-Ok.header c.in_ok-account.ensures
    (going_from_fresh g.R.Source Two c.args.reader.now _ _ c.requires c.in-Ok.header _ pulls read.stage r refl))

pub returns-in-Err-account_up_to-clause-device : goal.returns-in-Err-account_up_to-clause-device
returns-in-Err-account_up_to-clause-device g c =
    let read = c.in-Ok.ensures in
    let r : Recorded = record { head = c.in-Ok.header; events = [] } in
    let pulls = pulled_at_start g.R.Source c.args.reader.now.stage _ _ _ (ap (λ (x : Reader). x.stage) c.requires) read.pulls in
    c.in-Err-account_up_to.ensures.device (g.R.Source.left c.args.source.now) (g.R.Source.failed c.args.source.now) (accounting_at_start g.R.Source _ _ _ _ c.in_ok-account.account c.in-Ok.header c.in_ok-account.ensures
    (going_from_fresh g.R.Source Two c.args.reader.now _ _ c.requires c.in-Ok.header _ pulls read.stage r refl))

pub returns-in-Ok-account_up_to-clause-reads : goal.returns-in-Ok-account_up_to-clause-reads
returns-in-Ok-account_up_to-clause-reads g c =
    let read = c.in-Ok.ensures in
    let r : Recorded = record { head = c.in-Ok.header; events = [] } in
    let pulls = pulled_at_start g.R.Source c.args.reader.now.stage _ _ _ (ap (λ (x : Reader). x.stage) c.requires) read.pulls in
    c.in-Ok-account_up_to.ensures.front (g.R.Source.left c.args.source.now) (g.R.Source.failed c.args.source.now) (accounting_at_start g.R.Source _ _ _ _ c.in_ok-account.account c.in-Ok.header c.in_ok-account.ensures
    (going_from_fresh g.R.Source Two c.args.reader.now _ _ c.requires c.in-Ok.header _ pulls read.stage r refl))

pub returns-in-Ok-account_up_to-clause-device : goal.returns-in-Ok-account_up_to-clause-device
returns-in-Ok-account_up_to-clause-device g c =
    let read = c.in-Ok.ensures in
    let r : Recorded = record { head = c.in-Ok.header; events = [] } in
    let pulls = pulled_at_start g.R.Source c.args.reader.now.stage _ _ _ (ap (λ (x : Reader). x.stage) c.requires) read.pulls in
    c.in-Ok-account_up_to.ensures.device (g.R.Source.left c.args.source.now) (g.R.Source.failed c.args.source.now) (accounting_at_start g.R.Source _ _ _ _ c.in_ok-account.account c.in-Ok.header c.in_ok-account.ensures
    (going_from_fresh g.R.Source Two c.args.reader.now _ _ c.requires c.in-Ok.header _ pulls read.stage r refl))
