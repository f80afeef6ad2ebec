-- A record that is judged up to its first bad event.
use Rattle.std.proofs.Common.{◌≡◌, ◌++◌, [], append-nil, ℕ, List, true, Option, Some, None, Ok, IfSome, is_some, refl, sym, ap, subst, ◌∙◌}
use Rattle.pg_event.specs.declared.event.Event.{Event}
use Rattle.pg_event.specs.declared.event.Reason.{Reason}
use Rattle.pg_event.specs.declared.version.Version.TheVariants.{Two}
use Rattle.pg_event.specs.Spelling.{Recorded}
use Rattle.pg_event.specs.Witness.{first_bad}
use Rattle.pg_codec.specs.declared.stage.Stage.{Stage}
use Rattle.pg_codec.specs.declared.stream.Source.{Ghosts}
use Rattle.pg_check.specs.Judging.{Findings, IsJudged}
use Rattle.pg_report.specs.declared.report.Report.{Report}
use Rattle.pg_report.specs.Going.{IsJudging}
use Rattle.pg_report.specs.Intake.{ReadsRecord}
use Rattle.pg_report.specs.Judging.{IsReportOf}
use Rattle.pg_report.specs.Text.{report_of, verdict_of}
use Rattle.pg_answers.specs.Firsts.{Begins, IsJudgedUpTo, JudgesUpTo, IsReadUpTo, event_in, number_of}
use Rattle.pg_answers.proofs.GivenFirsts.{begins, up_to_denied, up_to_end}

some_number : (bad : Option (ℕ × Reason)) → is_some bad ≡ true → is_some (number_of bad) ≡ true
some_number None h = h
some_number (Some b) h = refl

module _ {R : Type 0} (g : Ghosts R) (start : Option (List ℕ)) (f : ℕ) (at : List ℕ × R) (stage : Stage) (judged : Findings) (segments : ℕ) (h : IsJudging g start f at stage judged [] segments) where
  -- what was read, all of which was judged
  abbrev pub so_far : Recorded
  so_far = record { head = judged.head; events = h.before ++ [] }

  all_judged : IsJudged judged so_far.head so_far.events
  all_judged = subst (λ (es : List Event). IsJudged judged judged.head es) (sym (append-nil h.before)) h.judges

  front : IfSome start (λ bytes. Begins bytes so_far)
  front = begins g start f at stage so_far segments h.going

  pub judged_to_end : IfSome start (λ bytes. ReadsRecord Two bytes (Ok so_far)) → IsJudgedUpTo start judged
  judged_to_end reads = (so_far, all_judged, up_to_end (number_of judged.first_bad) start so_far reads front)

  pub judged_to_bad : is_some judged.first_bad ≡ true → IsJudgedUpTo start judged
  judged_to_bad bad = (so_far, all_judged, up_to_denied (number_of judged.first_bad) start so_far (some_number judged.first_bad bad) front)

same_number : (bad : Option (ℕ × Reason)) → number_of bad ≡ event_in (verdict_of bad)
same_number None = refl
same_number (Some b) = refl

-- the report of what was judged
pub reported : (left : Option (List ℕ)) (judged : Findings) (report : Report) → IsJudgedUpTo left judged → IsReportOf judged report → JudgesUpTo left (Ok report)
reported left judged report h is =
    let r : Recorded = h.0 in
    let same : report ≡ report_of r = is r.head r.events h.1 in
    let number : number_of judged.first_bad ≡ event_in report.verdict =
    ap number_of h.1.first_bad ∙ same_number (first_bad r.head r.events) ∙ ap (λ (x : Report). event_in x.verdict) (sym same) in
    (r, same, subst (λ (n : Option ℕ). IfSome left (λ bytes. IsReadUpTo n bytes r)) number h.2)
