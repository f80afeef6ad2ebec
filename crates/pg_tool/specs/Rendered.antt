-- The form of an answer: the text, the JSON and the picture of a command are renderings of one
-- answer, which does not depend on the form.
use Rattle.std.specs.Prelude.{◌≡◌, ℕ, List, Result, IfSome}
use Rattle.pg_event.specs.Spelling.{Recorded}
use Rattle.pg_show_picture.specs.Svg.{IsPicture}
use Rattle.pg_report.specs.declared.error.AuditError.{AuditError}
use Rattle.pg_report.specs.Changes.{Change}
use Rattle.pg_answers.specs.declared.answer.Answer.{Answer}
use Rattle.pg_answers.specs.declared.answer.Answer.TheVariants.{Report, Summary, Cause, Causes}
use Rattle.pg_answers.specs.declared.answer.Answer.TheVariants.{Rejection, Events, Outcomes}
use Rattle.pg_answers.specs.declared.question.Question.{Question}
use Rattle.pg_answers.specs.declared.question.Question.TheVariants as questions
use Rattle.pg_answers.specs.AllowedTexts.{allowed_note}
use Rattle.pg_answers.specs.Answers.{IsAnswer, answer_status}
use Rattle.pg_answers.specs.AnswerTexts.{answer_text}
use Rattle.pg_answers.specs.Certificates.{IsTheCertificate}
use Rattle.pg_answers.specs.Found.{IsAbleBy}
use Rattle.pg_answers.specs.Texts.{IsTextGivenBy}
use Rattle.pg_answers.specs.Refusals.{TellsError}
use Rattle.pg_answers.specs.Streams.{Streams}
use Rattle.pg_show_json_answers.specs.Answers.{answer_json}
use Rattle.pg_show_json_answers.specs.Refusals.{TellsJson}
use Rattle.pg_tool.specs.declared.format.Format.{Format}
use Rattle.pg_tool.specs.declared.format.Format.TheVariants.{Text, Json, Picture}

-- the picture of a cause, or the text of what has none to draw
abbrev pub IsDrawn : Answer → List ℕ → Type 0
IsDrawn (Report report) text = text ≡ answer_text (Report report)
IsDrawn (Summary report s) text = text ≡ answer_text (Summary report s)
IsDrawn (Cause report r x allowed) text =
    IsPicture r.head r.events x (allowed_note allowed) text
IsDrawn (Causes report r xs s) text = text ≡ answer_text (Causes report r xs s)
IsDrawn (Rejection x) text = text ≡ answer_text (Rejection x)
IsDrawn (Events r selection) text = text ≡ answer_text (Events r selection)
IsDrawn (Outcomes x) text = text ≡ answer_text (Outcomes x)

abbrev pub IsRendered : Format → Answer → List ℕ → Type 0
IsRendered Text x text = text ≡ answer_text x
IsRendered Json x text = text ≡ answer_json x
IsRendered Picture x text = IsDrawn x text

-- the answer of a question of a record, and what is written of it
abbrev pub IsRendering : Question → Format → Recorded → Answer → List ℕ → Type 0
IsRendering question format r x text = IsAnswer question r x × IsRendered format x text

-- an error is told in the form of the answer
abbrev pub TellsFailure : Format → Change → Result Answer AuditError → Type 0
TellsFailure Text errors answer = TellsError errors answer
TellsFailure Json errors answer = TellsJson errors answer
TellsFailure Picture errors answer = TellsError errors answer

-- what `certify` answers and writes as text is one thing, whoever certifies the record
abbrev pub IsOnly : Question → Format → List ℕ → Result Answer AuditError → Type 0
IsOnly questions.Check format bytes answer = Unit {0}
IsOnly questions.CheckAll format bytes answer = Unit {0}
IsOnly questions.Certify Text bytes answer = IsTheCertificate bytes answer
IsOnly questions.Certify Json bytes answer = Unit {0}
IsOnly questions.Certify Picture bytes answer = Unit {0}
IsOnly questions.Explain format bytes answer = Unit {0}
IsOnly (questions.ExplainAt n) format bytes answer = Unit {0}
IsOnly (questions.ExplainAll most) format bytes answer = Unit {0}
IsOnly (questions.Show selection) format bytes answer = Unit {0}
IsOnly (questions.Outcomes asked most) format bytes answer = Unit {0}

-- By so many checkers: the status is that of such an answer, and standard error has its line or its
-- object.
abbrev pub AnswersRecord : Question → Format → ℕ → Streams → ℕ → Type 0
AnswersRecord question format checkers s status =
    (answer : Result Answer AuditError) × (status ≡ answer_status answer)
    × IsTextGivenBy (IsRendering question format) checkers s.input s.output answer
    × IsAbleBy checkers answer
    × IfSome s.input.old.bytes (λ bytes. IsOnly question format bytes answer)
    × TellsFailure format s.errors answer
