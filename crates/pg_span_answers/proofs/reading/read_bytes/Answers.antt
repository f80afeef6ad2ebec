use Rattle.std.proofs.Common.{arith}
use Rattle.pg_span_answers.proofs.Spelled.{spells_read}
use Rattle.pg_span_answers.proofs.reading.read_bytes.Goals as goal

pub returns-in-Ok-clause-reads : goal.returns-in-Ok-clause-reads
returns-in-Ok-clause-reads c = spells_read c.spelled_where_read.ensures c.args.bytes.now c.in-Ok.run' (λ i. omega (arith, c.type_inv.bytes i)) c.in-Ok.ensures
