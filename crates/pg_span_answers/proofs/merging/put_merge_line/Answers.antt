use Rattle.std.proofs.Common.{◌++◌, codes, ap₂}
use Rattle.pg_codec.proofs.Written.{puts_same}
use Rattle.pg_answers.specs.Refusals.{refusal_text}
use Rattle.pg_span_answers.proofs.merging.put_merge_line.Goals as goal

pub returns : goal.returns
returns g c = puts_same g.W.Sink _ _ _ _ _ (ap₂ (λ number name. refusal_text number name ++ codes "\n") c.number.ensures c.merge_name.ensures) c.put_line.ensures
