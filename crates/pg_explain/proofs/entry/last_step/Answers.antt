use Rattle.pg_explain.proofs.Reasons.{last_read}
use Rattle.pg_explain.proofs.entry.last_step.Goals as goal

pub returns : goal.returns
returns c = last_read c.args.steps.now _ c.requires
