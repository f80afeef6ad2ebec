use Rattle.std.proofs.Common.{refl}
use Rattle.std.proofs.KnownBytes.{Keeps-refl}
use Rattle.pg_answers.proofs.WrittenRuns.{reading_fails, run_told}
use Rattle.pg_answers.proofs.replayer.write_run.Goals as goal

pub returns-in-Err : goal.returns-in-Err
returns-in-Err g c = reading_fails _ _ c.in-Err.error c.in-Err.ensures.reads c.in-Err.ensures.device (Keeps-refl _) refl

pub returns-in-Ok : goal.returns-in-Ok
returns-in-Ok g c =
    let gave = c.write_run_of.ensures in
    run_told _ _ c.in-Ok.history c.in-Ok.ensures.reads c.in-Ok.ensures.device c.write_run_of.result gave.text gave.device
