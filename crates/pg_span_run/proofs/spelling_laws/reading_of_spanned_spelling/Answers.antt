use Rattle.pg_span_run.proofs.Readings.{reading_of_spelling}
use Rattle.pg_span_run.proofs.spelling_laws.reading_of_spanned_spelling.Goals as goal

pub returns : goal.returns
returns c = reading_of_spelling
