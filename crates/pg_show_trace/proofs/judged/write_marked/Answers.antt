use Rattle.pg_show_trace.proofs.Parts.{part_told, part_failed}
use Rattle.pg_show_trace.proofs.judged.write_marked.Goals as goal

pub returns-in-Ok-clause-text : goal.returns-in-Ok-clause-text
returns-in-Ok-clause-text g c = part_told _ _ tt c.traced_of-traced.result c.in-Ok.ensures

pub returns-clause-text : goal.returns-clause-text
returns-clause-text g c = part_failed _ _ c.in-Err.error c.in-Err.ensures
