-- What `certify` answers is one thing, whoever certifies the record.
use Rattle.std.specs.Prelude.{◌≡◌, ℕ, List, Result, Ok, Err}
use Rattle.pg_event.specs.Spelling.{Recorded}
use Rattle.pg_report.specs.declared.error.AuditError.{AuditError}
use Rattle.pg_report.specs.Changes.{Change, Adds}
use Rattle.pg_answers.specs.declared.answer.Answer.{Answer}
use Rattle.pg_answers.specs.Answers.{IsCertificate, denied_in}
use Rattle.pg_answers.specs.AnswerTexts.{answer_text}
use Rattle.pg_answers.specs.Texts.{GivesText}

-- the answer, and its text
abbrev pub IsCertificateText : Recorded → Answer → List ℕ → Type 0
IsCertificateText r x text = IsCertificate r x × (text ≡ answer_text x)

-- The answer is a function of the record, and so is what was written: whatever certifies the same
-- bytes and comes to an answer, by however many checkers, comes to this event, or to none, and
-- writes this text.
abbrev pub IsTheCertificate : List ℕ → Result Answer AuditError → Type 0
IsTheCertificate bytes (Ok x) =
    (other : Answer) (checkers : ℕ) (input output : Change) →
    GivesText IsCertificateText checkers bytes input output (Ok other) →
    (denied_in other ≡ denied_in x) × Adds output (answer_text x)
IsTheCertificate bytes (Err e) = Unit {0}
