-- What `check` promises is what an audit does.
use Rattle.std.proofs.Common.{◌≡◌, ℕ, List, Option, Some, None, Ok, Err, IfSome, inl, inr, refl, sym, ap, subst, ◌∙◌}
use Rattle.std.specs.Prelude.{Result}
use Rattle.pg_event.specs.Spelling.{Recorded}
use Rattle.pg_event.specs.Witness.{first_bad}
use Rattle.pg_run_of.proofs.Whole.{accepted_records_run}
use Rattle.pg_report.specs.declared.error.AuditError.{AuditError}
use Rattle.pg_report.specs.declared.error.AuditError.TheVariants as errors
use Rattle.pg_report.specs.declared.report.Report.{Report as Reported}
use Rattle.pg_report.specs.declared.report.Verdict.{Verdict}
use Rattle.pg_report.specs.declared.report.Verdict.TheVariants.{Yes, No}
use Rattle.pg_report.specs.Audits.{Audits, HasWritten, IsAudit, IsTheVerdict, MeansRun, SpellsOne, TellsFailures}
use Rattle.pg_report.specs.Changes.{Change, Adds, AddsSome}
use Rattle.pg_report.specs.Text.{report_of, report_text}
use Rattle.pg_report.proofs.Verdicts.{none_bad}
use Rattle.pg_answers.specs.Status.{status_of}
use Rattle.pg_answers.specs.declared.answer.Answer.{Answer}
use Rattle.pg_answers.specs.declared.answer.Answer.TheVariants.{Report}
use Rattle.pg_answers.specs.Answers.{answer_status}
use Rattle.pg_answers.specs.AnswerTexts.{answer_text}
use Rattle.pg_answers.specs.Audited.{ChecksAreAudits, IsCheckText}
use Rattle.pg_answers.specs.Texts.{GivesText, HasWrittenText, IsTextGivenBy}

-- of a record that is spelled a verdict, and what it means
means : (verdict : Verdict) (bytes : List ℕ) (r : Recorded) → SpellsOne bytes r → verdict ≡ (report_of r).verdict → MeansRun bytes (Ok verdict)
means Yes bytes r one is = (r, one, accepted_records_run r one.0.0 (none_bad (first_bad r.head r.events) (sym is)))
means (No event reason) bytes r one is = tt

-- whatever audit of the bytes comes to a verdict, it is this one
same : (bytes : List ℕ) (r : Recorded) (input output : Change) (other : Verdict) → SpellsOne bytes r → Audits bytes input output (Ok other) → (other ≡ (report_of r).verdict) × Adds output (report_text (report_of r))
same bytes r input output other one its =
    let e : its.0 ≡ r = one.1 its.0 its.1.0 in
    (its.2 ∙ ap (λ (x : Recorded). (report_of x).verdict) e, subst (λ (x : Recorded). Adds output (report_text (report_of x))) e its.3)

one_report : (x : Answer) (r q : Recorded) → x ≡ Report (report_of r) → x ≡ Report (report_of q) → report_of r ≡ report_of q
one_report x r q h k =
    let both : Report (report_of r) ≡ Report (report_of q) = sym h ∙ k in
    cc

is_text : (x : Answer) (r : Recorded) (text : List ℕ) → IsCheckText r x text → text ≡ report_text (report_of r)
is_text x r text is = is.1 ∙ ap answer_text is.0

module _ (checkers : ℕ) (input output : Change) where
  -- ---- a verdict

  module _ (x : Answer) (r : Recorded) (is : x ≡ Report (report_of r)) where
    audits : (left : Option (List ℕ)) → IfSome left (λ bytes. GivesText IsCheckText checkers bytes input output (Ok x)) → IfSome left (λ bytes. Audits bytes input output (Ok (report_of r).verdict))
    audits None gives = tt
    audits (Some bytes) gives =
        let q : Recorded = gives.0 in
        let verdict : (report_of r).verdict ≡ (report_of q).verdict = ap (λ (p : Reported). p.verdict) (one_report x r q is gives.3.0) in
        let wrote = subst (Adds output) (is_text x q gives.2 gives.3) gives.4 in
        (q, gives.1, verdict, wrote, λ yes. accepted_records_run q gives.1.0.0 (none_bad (first_bad q.head q.events) (sym verdict ∙ yes)))

    runs : (left : Option (List ℕ)) → IfSome left (λ bytes. GivesText IsCheckText checkers bytes input output (Ok x)) → IfSome left (λ bytes. MeansRun bytes (Ok (report_of r).verdict))
    runs None gives = tt
    runs (Some bytes) gives =
        let q : Recorded = gives.0 in
        means (report_of r).verdict bytes q gives.1 (ap (λ (p : Reported). p.verdict) (one_report x r q is gives.3.0))

    only : (left : Option (List ℕ)) → IfSome left (λ bytes. GivesText IsCheckText checkers bytes input output (Ok x)) → IfSome left (λ bytes. IsTheVerdict bytes output (Ok (report_of r).verdict))
    only None gives = tt
    only (Some bytes) gives =
        let q : Recorded = gives.0 in
        let verdict : (report_of q).verdict ≡ (report_of r).verdict = ap (λ (p : Reported). p.verdict) (one_report x q r gives.3.0 is) in
        let wrote = subst (Adds output) (is_text x q gives.2 gives.3) gives.4 in
        (report_text (report_of q), wrote, λ other input' output' its. let one = same bytes q input' output' other gives.1 its in (one.0 ∙ verdict, one.1))

  told : (x : Answer) → IsTextGivenBy IsCheckText checkers input output (Ok x) → (verdict : Result Verdict AuditError) × IsAudit input output verdict × (answer_status (Ok x) ≡ status_of verdict)
  told x g =
      let w = g.written in
      let r : Recorded = w.0 in
      let is = w.2.0 in
      let left = input.old.bytes in (
        Ok (report_of r).verdict,
        record {
          report = audits x r is left g.gives;
          yes = runs x r is left g.gives;
          only = only x r is left g.gives;
          written = (report_of r, refl, subst (Adds output) (is_text x r w.1 w.2) w.3);
          failures = g.failures;
        },
        ap (λ (y : Answer). answer_status (Ok y)) is,
      )

  -- ---- an error

  failed : (e : AuditError) (left : Option (List ℕ)) → IfSome left (λ bytes. GivesText IsCheckText checkers bytes input output (Err e)) → IfSome left (λ bytes. Audits bytes input output (Err e))
  failed e None gives = tt
  failed (errors.Refused d) (Some bytes) gives = gives
  failed errors.Device (Some bytes) (inl h) = inl h
  failed errors.Device (Some bytes) (inr h) =
      let has = h.2 in
      inr (h.0, has.0, has.1, subst (AddsSome output) (is_text h.1 has.0 has.2 has.3) has.4)
  failed errors.Memory (Some bytes) gives = gives
  failed errors.Thread (Some bytes) gives = gives.1
  failed errors.Checkers (Some bytes) gives = absurd gives

  no_run : (e : AuditError) (left : Option (List ℕ)) → IfSome left (λ bytes. MeansRun bytes (Err e))
  no_run e None = tt
  no_run e (Some bytes) = tt

  no_verdict : (e : AuditError) (left : Option (List ℕ)) → IfSome left (λ bytes. IsTheVerdict bytes output (Err e))
  no_verdict e None = tt
  no_verdict e (Some bytes) = tt

  wrote_none : (e : AuditError) → HasWrittenText IsCheckText input output (Err e) → HasWritten input output (Err e)
  wrote_none (errors.Refused d) h = h
  wrote_none errors.Device (inl h) = inl h
  wrote_none errors.Device (inr h) = inr (h.0, report_of h.1, subst (AddsSome output) (is_text h.2 h.1 h.3 h.4) h.5)
  wrote_none errors.Memory h = h
  wrote_none errors.Thread h = h
  wrote_none errors.Checkers h = h

  fails : (e : AuditError) → TellsFailures {A = Answer} input output (Err e) → TellsFailures {A = Verdict} input output (Err e)
  fails (errors.Refused d) h = h
  fails errors.Device h = h
  fails errors.Memory h = h
  fails errors.Thread h = h
  fails errors.Checkers h = h

  untold : (e : AuditError) → IsTextGivenBy IsCheckText checkers input output (Err e) → (verdict : Result Verdict AuditError) × IsAudit input output verdict × (answer_status (Err e) ≡ status_of verdict)
  untold e g = (
    Err e,
    record {
      report = failed e input.old.bytes g.gives;
      yes = no_run e input.old.bytes;
      only = no_verdict e input.old.bytes;
      written = wrote_none e g.written;
      failures = fails e g.failures;
    },
    refl,
  )

pub checks_are_audits : ChecksAreAudits
checks_are_audits checkers input output (Ok x) g = told checkers input output x g
checks_are_audits checkers input output (Err e) g = untold checkers input output e g
