use Rattle.std.proofs.lemmas.Result.{err_from_is_err_and}
use Rattle.pg_guest.specs.Answers.{lines_in, told_in}
use Rattle.pg_guest.proofs.Wants.{lacks_head}
use Rattle.pg_guest.proofs.script_reader.header_of.Goals as goal

pub returns-in_err-processors-clause-header : goal.returns-in_err-processors-clause-header
returns-in_err-processors-clause-header c =
    let p = err_from_is_err_and c.from_residual-in_err-processors.result c.from_residual-in_err-processors.ensures.1 in
    let e = c.in_err-processors.field-0.0 in
    let starts = rw c.most_processors-most.ensures at c.in_err-processors.ensures.starts in
    rw (p.1, p.2)
    (lacks_head (lines_in c.args.text.now) (lines_in c.in_ok-version.rest) (told_in c.in_ok-cfg.rest) (told_in c.in_ok-segment.rest) c.in_ok-version.version c.in_ok-cfg.cfg c.in_ok-segment.segment e c.in_ok-version.ensures c.in_ok-cfg.ensures.cfg c.in_ok-segment.ensures.size starts)
