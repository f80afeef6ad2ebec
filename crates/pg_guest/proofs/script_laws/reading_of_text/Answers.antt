use Rattle.pg_guest.proofs.Said.{reading_of_text}
use Rattle.pg_guest.proofs.script_laws.reading_of_text.Goals as goal

pub returns : goal.returns
returns c = reading_of_text
