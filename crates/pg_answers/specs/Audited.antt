-- `check` is an audit: what it answers and writes is what an audit of the same bytes promises.
use Rattle.std.specs.Prelude.{◌≡◌, ℕ, List, Result}
use Rattle.pg_event.specs.Spelling.{Recorded}
use Rattle.pg_report.specs.declared.error.AuditError.{AuditError}
use Rattle.pg_report.specs.declared.report.Verdict.{Verdict}
use Rattle.pg_report.specs.Audits.{IsAudit}
use Rattle.pg_report.specs.Changes.{Change}
use Rattle.pg_answers.specs.Status.{status_of}
use Rattle.pg_answers.specs.declared.answer.Answer.{Answer}
use Rattle.pg_answers.specs.declared.question.Question.TheVariants.{Check}
use Rattle.pg_answers.specs.Answers.{IsAnswer, answer_status}
use Rattle.pg_answers.specs.AnswerTexts.{answer_text}
use Rattle.pg_answers.specs.Texts.{IsTextGivenBy}

-- the answer of `check`, and its text
abbrev pub IsCheckText : Recorded → Answer → List ℕ → Type 0
IsCheckText r x text = IsAnswer Check r x × (text ≡ answer_text x)

-- So where it answers yes the bytes spell one record, and some run of the manual's machine has
-- exactly its events in that order; and the verdict is the same for every number of checkers.
abbrev pub ChecksAreAudits : Type 0
ChecksAreAudits = (checkers : ℕ) (input output : Change) (answer : Result Answer AuditError) →
    IsTextGivenBy IsCheckText checkers input output answer →
    (verdict : Result Verdict AuditError) × IsAudit input output verdict
    × (answer_status answer ≡ status_of verdict)
