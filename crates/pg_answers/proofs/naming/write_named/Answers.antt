use Rattle.std.proofs.Common.{refl}
use Rattle.std.proofs.KnownBytes.{Keeps-refl}
use Rattle.pg_answers.specs.Naming.{IsNaming}
use Rattle.pg_answers.proofs.GivenTexts.{reading_fails}
use Rattle.pg_answers.proofs.naming.write_named.Goals as goal

pub returns-in-Ok : goal.returns-in-Ok
returns-in-Ok g c = c.write_found.ensures _ c.in-Ok.ensures.reads c.in-Ok.ensures.device

pub returns-in-Err : goal.returns-in-Err
returns-in-Err g c = reading_fails IsNaming 1 _ _ c.in-Err.error c.in-Err.ensures.reads c.in-Err.ensures.device (Keeps-refl _) refl
