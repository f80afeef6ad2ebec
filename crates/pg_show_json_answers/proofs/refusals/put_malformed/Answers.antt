use Rattle.std.proofs.Common.{◌++◌, sym}
use Rattle.std.proofs.lemmas.Result.{err_from_is_err_and}
use Rattle.pg_codec.proofs.Written.{puts_same}
use Rattle.pg_codec.proofs.Segments.{puts_then, puts_fails}
use Rattle.pg_show_json_answers.proofs.Pieces.{event_piece, rule_piece, last_piece, malformed_line}
use Rattle.pg_show_json_answers.proofs.refusals.put_malformed.Goals as goal

pub returns-in_err-put_number : goal.returns-in_err-put_number
returns-in_err-put_number g c =
    let p = err_from_is_err_and c.from_residual.result c.from_residual.ensures.1 in
    rw (p.1, p.2) (puts_same g.W.Sink _ _ _ _ _ (sym (malformed_line c.args.event c.args.rule))
    (puts_fails {X = Unit {0}} {Y = Unit {0}} g.W.Sink (event_piece c.args.event) (rule_piece c.args.rule ++ last_piece) _ _ c.in_err-put_number.field-0.0 c.in_err-put_number.ensures))

pub returns-in_err-put_number-2 : goal.returns-in_err-put_number-2
returns-in_err-put_number-2 g c =
    let p = err_from_is_err_and c.from_residual-in_err-put_number-2.result c.from_residual-in_err-put_number-2.ensures.1 in
    rw (p.1, p.2) (puts_same g.W.Sink _ _ _ _ _ (sym (malformed_line c.args.event c.args.rule))
    (puts_then g.W.Sink (event_piece c.args.event) (rule_piece c.args.rule ++ last_piece) _ _ _ _ _ c.in_ok-put_number.ensures
    (puts_fails {X = Unit {0}} {Y = Unit {0}} g.W.Sink (rule_piece c.args.rule) last_piece _ _ c.in_err-put_number-2.field-0.0 c.in_err-put_number-2.ensures)))

pub returns : goal.returns
returns g c =
    puts_same g.W.Sink _ _ _ _ _ (sym (malformed_line c.args.event c.args.rule))
    (puts_then g.W.Sink (event_piece c.args.event) (rule_piece c.args.rule ++ last_piece) _ _ _ _ _ c.in_ok-put_number.ensures
    (puts_then g.W.Sink (rule_piece c.args.rule) last_piece _ _ _ _ _ c.in_ok-put_number-2.ensures c.put_all.ensures))
