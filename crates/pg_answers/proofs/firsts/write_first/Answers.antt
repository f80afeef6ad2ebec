use Rattle.std.proofs.Common.{refl}
use Rattle.std.proofs.KnownBytes.{Keeps-refl}
use Rattle.pg_answers.specs.Answers.{denied_in}
use Rattle.pg_answers.specs.Certificates.{IsCertificateText}
use Rattle.pg_answers.proofs.GivenFirsts.{first_fails}
use Rattle.pg_answers.proofs.firsts.write_first.Goals as goal

pub write_up_to-requires : goal.write_up_to-requires
write_up_to-requires g c =
    let known = c.in-Ok.ensures.reads in
    (known.0, known.1)

pub returns-in-Ok : goal.returns-in-Ok
returns-in-Ok g c =
    let known = c.in-Ok.ensures.reads in
    c.write_up_to.ensures known.0 known.1 _ known.2 c.in-Ok.ensures.device

pub returns-in-Err : goal.returns-in-Err
returns-in-Err g c = first_fails IsCertificateText denied_in _ _ c.in-Err.error c.in-Err.ensures.reads c.in-Err.ensures.device (Keeps-refl _) refl
