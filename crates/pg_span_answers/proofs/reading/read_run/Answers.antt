use Rattle.std.proofs.Common.{ℕ, sym, subst, ◌∙◌}
use Rattle.pg_codec.specs.Streams.{FailsWithDevice}
use Rattle.pg_span_answers.specs.Readings.{is_device}
use Rattle.pg_span_answers.proofs.reading.read_run.Goals as goal

pub returns-in-Ok-clause-failures : goal.returns-in-Ok-clause-failures
returns-in-Ok-clause-failures g c =
    subst (λ (n : ℕ). FailsWithDevice is_device (g.R.Source.failed c.args.input.now) n c.read_bytes-run.result)
    (sym (c.tell_unread.ensures.failed ∙ c.in-Ok.ensures.failures))
    (c.read_bytes-run.ensures.device (g.R.Source.failed c.args.input.now))
