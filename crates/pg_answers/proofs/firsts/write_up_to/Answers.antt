use Rattle.std.proofs.Common.{ℕ, Option, IfSome, refl, subst, sym}
use Rattle.std.proofs.KnownBytes.{Keeps-refl}
use Rattle.std.proofs.lemmas.Result.{err_from_is_err_and}
use Rattle.pg_answers.specs.Answers.{denied_in}
use Rattle.pg_answers.specs.AnswerTexts.{answer_text}
use Rattle.pg_answers.specs.Certificates.{IsCertificateText}
use Rattle.pg_answers.specs.Firsts.{IsReadUpTo}
use Rattle.pg_answers.proofs.GivenFirsts.{first_out_of_memory, first_told}
use Rattle.pg_answers.proofs.firsts.write_up_to.Goals as goal

pub returns-in_err-answer : goal.returns-in_err-answer
returns-in_err-answer g c = λ r known input reads read.
    let p = err_from_is_err_and c.from_residual.result c.from_residual.ensures.1 in
    rw (p.1, p.2) (first_out_of_memory IsCertificateText denied_in input _ r read (Keeps-refl _) refl)

pub returns : goal.returns
returns g c = λ r known input reads read.
    let x = c.in_ok-answer.answer in
    let wrote = c.write_answer.ensures in
    let same = subst (λ (d : Option ℕ). IfSome input.old.bytes (λ bytes. IsReadUpTo d bytes r)) (sym c.in_ok-answer.ensures.denied) reads in
    first_told IsCertificateText denied_in input _ r x same read (answer_text x) (c.in_ok-answer.ensures.told r known, refl) c.write_answer.result wrote.text wrote.device wrote.same
