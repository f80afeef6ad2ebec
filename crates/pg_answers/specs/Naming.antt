-- What `certify --bytes` answers: the record with moments that were found for its events, and where
-- there are none the report of the no on standard error.
use Rattle.std.specs.Prelude.{◌≡◌, ◌⊎◌, ℕ, List, [], Result, Ok, Err, string_bytes}
use Rattle.pg_event.specs.declared.event.Event.{Event}
use Rattle.pg_event.specs.Heads.{HoldsToAll}
use Rattle.pg_event.specs.Spelling.{Recorded, IsRecord, record_bytes}
use Rattle.pg_event.specs.Witness.{Accepted}
use Rattle.pg_run_of.specs.Converse.{AreSameButMoments}
use Rattle.pg_run_of.specs.Law.{HasRun}
use Rattle.pg_report.specs.declared.error.AuditError.{AuditError}
use Rattle.pg_report.specs.Audits.{SpellsOne}
use Rattle.pg_report.specs.Changes.{Change, Fails, Works, Adds, AddsSome}
use Rattle.pg_answers.specs.declared.shown.Naming.{Naming}
use Rattle.pg_answers.specs.declared.shown.Naming.TheVariants.{Named, Denied}
use Rattle.pg_answers.specs.declared.answer.Rejection.{Rejection}
use Rattle.pg_answers.specs.Answers.{IsRejection}
use Rattle.pg_answers.specs.AnswerTexts.{rejection_text}
use Rattle.pg_answers.specs.Refusals.{StaysSame, Tells, refusal_line}
use Rattle.pg_answers.specs.Status.{error_status}
use Rattle.pg_answers.specs.Streams.{Streams}
use Rattle.pg_answers.specs.Texts.{IsTextGiven}

abbrev pub with_events : Recorded → List Event → Recorded
with_events r events = record { head = r.head; events = events }

-- a record that is the same but for its moments, and accepted, so that some run of the machine has
-- exactly its events
pub record IsNamedRecord (r named : Recorded) : Type 0 where
  pub head : named.head ≡ r.head
  pub same : AreSameButMoments named.events r.events
  pub accepted : Accepted named.head named.events
  pub run : HasRun named.head named.events

-- the text is the one spelling of such a record; or there is none, and the text is empty: what is
-- told is the report of a no at the least event that no moments witness, with its cause
abbrev pub IsNaming : Recorded → Naming → List ℕ → Type 0
IsNaming r Named text =
    (named : Recorded) × IsNamedRecord r named × (text ≡ record_bytes named)
    × (IsRecord r → HoldsToAll r.head → SpellsOne text named)
IsNaming r (Denied told) text =
    ((x : Rejection) × IsRejection r x × (string_bytes told ≡ rejection_text x)) × (text ≡ [])

-- 0 where the record was written. The report of a no goes to standard error, and the status is 1;
-- where standard error fails it is 2. An error is told by its line.
abbrev pub TellsNaming : Change → Result Naming AuditError → ℕ → Type 0
TellsNaming errors (Ok Named) status = StaysSame errors × (status ≡ 0)
TellsNaming errors (Ok (Denied told)) status =
    (Adds errors (string_bytes told) × Works errors × (status ≡ 1))
    ⊎ (AddsSome errors (string_bytes told) × Fails errors × (status ≡ 2))
TellsNaming errors (Err e) status = Tells errors (refusal_line e) × (status ≡ error_status e)

-- the status and what standard error gets are those of such an answer
abbrev pub NamesRecord : Streams → ℕ → Type 0
NamesRecord s status =
    (answer : Result Naming AuditError) × IsTextGiven IsNaming s.input s.output answer
    × TellsNaming s.errors answer status
