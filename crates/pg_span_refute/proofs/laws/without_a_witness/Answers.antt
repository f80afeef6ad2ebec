use Rattle.pg_span_refute.proofs.Witness.{without_a_witness}
use Rattle.pg_span_refute.proofs.laws.without_a_witness.Goals as goal

pub returns : goal.returns
returns c = without_a_witness
