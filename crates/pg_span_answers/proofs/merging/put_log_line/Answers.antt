use Rattle.std.proofs.Common.{◌++◌, codes}
use Rattle.std.proofs.lemmas.Result.{err_from_is_err_and}
use Rattle.pg_codec.proofs.Segments.{puts_then, puts_fails}
use Rattle.pg_span_answers.specs.Merges.{log_refusal_text, in_file}
use Rattle.pg_span_answers.proofs.merging.put_log_line.Goals as goal

pub returns-in_err-put_log_refusal : goal.returns-in_err-put_log_refusal
returns-in_err-put_log_refusal g c =
    let p = err_from_is_err_and c.from_residual.result c.from_residual.ensures.1 in
    rw (p.1, p.2) (puts_fails {X = Unit {0}} {Y = Unit {0}} g.W.Sink (log_refusal_text c.args.refusal) (in_file c.args.name.now) _ _ c.in_err-put_log_refusal.field-0.0 c.in_err-put_log_refusal.ensures)

pub returns-in_err-put_all : goal.returns-in_err-put_all
returns-in_err-put_all g c =
    let p = err_from_is_err_and c.from_residual-in_err-put_all.result c.from_residual-in_err-put_all.ensures.1 in
    rw (p.1, p.2) (puts_then g.W.Sink (log_refusal_text c.args.refusal) (in_file c.args.name.now) _ _ _ _ _ c.in_ok-put_log_refusal.ensures
    (puts_fails {X = Unit {0}} {Y = Unit {0}} g.W.Sink (codes " in") (codes " " ++ (c.args.name.now ++ codes "\n")) _ _ c.in_err-put_all.field-0.0 c.in_err-put_all.ensures))

pub returns : goal.returns
returns g c =
    puts_then g.W.Sink (log_refusal_text c.args.refusal) (in_file c.args.name.now) _ _ _ _ _ c.in_ok-put_log_refusal.ensures
    (puts_then g.W.Sink (codes " in") (codes " " ++ (c.args.name.now ++ codes "\n")) _ _ _ _ _ c.in_ok-put_all.ensures c.put_name.ensures)
