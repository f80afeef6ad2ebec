use Rattle.pg_span_verdict.proofs.Alone.{each_precedes_next}
use Rattle.pg_span_verdict.proofs.laws.one_order_alone.Goals as goal

pub returns : goal.returns
returns c = λ s. (λ each order is. c.no_other_order.ensures s order each is, each_precedes_next s)
