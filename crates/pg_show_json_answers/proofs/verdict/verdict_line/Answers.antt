use Rattle.std.proofs.Common.{◌∙◌, ap, length}
use Rattle.pg_show_json.specs.Tree.{members_of}
use Rattle.pg_show_json.specs.Reports.{with_counts}
use Rattle.pg_span_answers.specs.Texts.{segments_of}
use Rattle.pg_show_json_answers.specs.Verdicts.{cause_fields, with_verdict}
use Rattle.pg_show_json_answers.proofs.verdict.verdict_line.Goals as goal

pub returns : goal.returns
returns c =
    let s = c.args.run.now in
    let told = c.args.verdict.now in
    let cause = cause_fields s told in
    let counted = c.in_ok-put_counts.ensures cause c.in_ok-fields.ensures
    ∙ ap (λ n. members_of (with_counts n c.segments_of.result cause)) c.len.ensures.length
    ∙ ap (λ n. members_of (with_counts (length s.events) n cause)) c.segments_of.ensures in
    let fields = c.in_ok-put_verdict.ensures (with_counts (length s.events) (segments_of s) cause) counted in
    c.line_of.ensures (with_verdict told (with_counts (length s.events) (segments_of s) cause)) fields
