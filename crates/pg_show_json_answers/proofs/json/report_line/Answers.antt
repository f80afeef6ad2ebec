use Rattle.pg_show_json.specs.Reports.{with_report}
use Rattle.pg_show_json_answers.proofs.json.report_line.Goals as goal

pub returns : goal.returns
returns c = λ told e. c.line_of.ensures (with_report c.args.report told) (c.in_ok-put_report.ensures told e)
