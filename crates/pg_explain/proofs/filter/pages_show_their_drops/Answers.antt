use Rattle.pg_explain.proofs.Filters.{pages_show}
use Rattle.pg_explain.proofs.filter.pages_show_their_drops.Goals as goal

pub returns : goal.returns
returns c = pages_show
