use Rattle.pg_explain.proofs.Denials as proved
use Rattle.pg_explain.proofs.denial.denials_among_kept.Goals as goal

pub returns : goal.returns
returns c = proved.denials_among_kept c.witnessed_among_kept.ensures
