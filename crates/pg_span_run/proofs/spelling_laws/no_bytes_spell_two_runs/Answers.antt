use Rattle.pg_span_run.proofs.Readings.{no_bytes_spell_two}
use Rattle.pg_span_run.proofs.spelling_laws.no_bytes_spell_two_runs.Goals as goal

pub returns : goal.returns
returns c = no_bytes_spell_two
