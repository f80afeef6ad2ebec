use Rattle.std.proofs.Common.{Ok, subst}
use Rattle.pg_report.specs.declared.report.Verdict.{Verdict}
use Rattle.pg_report.specs.Merging.{Merges}
use Rattle.pg_report.specs.Text.{verdict_of}
use Rattle.pg_report.proofs.Rounds.{merges}
use Rattle.pg_report.proofs.crew.found_in.Goals as goal

pub merge_error-requires : goal.merge_error-requires
merge_error-requires c =
    let each = c.requires.each in
    merges each.0 c.args.round c.requires.ordered c.args.verdicts.now each.1 c.in-Err.error c.in-Err.ensures

pub returns-in-Ok-clause-ok : goal.returns-in-Ok-clause-ok
returns-in-Ok-clause-ok c = λ r are.
    let told : Merges c.args.round c.args.verdicts.now (Ok (verdict_of c.bad_of.result)) = subst (λ (v : Verdict). Merges c.args.round c.args.verdicts.now (Ok v)) c.bad_of.ensures c.in-Ok.ensures in
    rw are at told
