use Rattle.std.proofs.Common.{refl}
use Rattle.pg_show_trace.specs.Judged.{IsCertifiedTrace, traced_of}
use Rattle.pg_show_trace.specs.Texts.{marking}
use Rattle.pg_show_trace.proofs.Given.{trace_written}
use Rattle.pg_show_trace.proofs.judged.trace_certified.Goals as goal

pub returns : goal.returns
returns g c =
    let mark = marking c.in_ok-mark.mark in
    trace_written (IsCertifiedTrace c.args.history.now) c.args.checkers _ (traced_of mark) _ c.write_marked.result (mark, c.in_ok-mark.ensures, refl, refl) c.write_marked.ensures.text c.write_marked.ensures.told
