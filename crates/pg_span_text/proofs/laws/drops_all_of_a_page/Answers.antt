use Rattle.pg_span_text.proofs.Dropping.{drops_all_of_a_page}
use Rattle.pg_span_text.proofs.laws.drops_all_of_a_page.Goals as goal

pub returns : goal.returns
returns c = drops_all_of_a_page
