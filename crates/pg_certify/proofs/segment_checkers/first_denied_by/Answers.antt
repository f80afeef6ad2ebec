use Rattle.std.proofs.Common.{◌*◌, refl, sym, ◌∙◌, subst}
use Rattle.pg_event.specs.Spelling.{Recorded, segment_count}
use Rattle.pg_pool.specs.declared.round.Round.{Round}
use Rattle.pg_pool.specs.Verdicts.{AreVerdicts}
use Rattle.pg_certify.specs.Segments.{IsAnswer, IsBetween, IsLeastDenied}
use Rattle.pg_certify.proofs.Segments.{all_certified, all_denied, covers, settled}
use Rattle.pg_certify.proofs.segment_checkers.first_denied_by.Given.{Over}
use Rattle.pg_certify.proofs.segment_checkers.first_denied_by.Goals as goal

-- what the segments tell of the run
least : (g : Over) (c : goal.After-drop-segments g) → IsLeastDenied (IsBetween 0 (segment_count c.args.history.now * c.args.history.now.head.segment)) c.args.history.now.head c.args.history.now.events c.least_of.result
least g c =
    let asked = c.segments_of-segments in
    let h : Recorded = c.args.history.now in
    let run : Recorded = asked.result.history.now in
    let told : AreVerdicts (IsAnswer run.head run.events) asked.result.round c.in-Ok.outcome.verdicts.items =
    rw c.in-Ok.is at (c.judge_round-outcome.ensures.verdicts run (λ k d less. (refl, c.in_ok-certifiers.ensures.all k d less ∙ sym asked.ensures.history))) in
    let here : AreVerdicts (IsAnswer h.head h.events) asked.result.round c.in-Ok.outcome.verdicts.items = subst (λ (q : Recorded). AreVerdicts (IsAnswer q.head q.events) asked.result.round c.in-Ok.outcome.verdicts.items) asked.ensures.history told in
    settled h (segment_count h) c.in-Ok.outcome.verdicts.items c.deref.result.now c.least_of.result (subst (λ (r : Round). AreVerdicts (IsAnswer h.head h.events) r c.in-Ok.outcome.verdicts.items) asked.ensures.round here) c.deref.ensures.value c.least_of.ensures

pub judge_round-outcome-requires-clause-fits : goal.judge_round-outcome-requires-clause-fits
judge_round-outcome-requires-clause-fits g c κs within =
    let asked = c.segments_of-segments in
    (asked.result.history.now, λ k d less. (refl, c.in_ok-certifiers.ensures.all k d less ∙ sym asked.ensures.history))

pub returns-in-Ok-clause-denied : goal.returns-in-Ok-clause-denied
returns-in-Ok-clause-denied g c =
    let h : Recorded = c.args.history.now in
    all_denied (IsBetween 0 (segment_count h * h.head.segment)) h.head h.events c.least_of.result (covers h (segment_count h) c.segments_of-segments.ensures.sized refl) (least g c)

pub returns-in-Ok-clause-certified : goal.returns-in-Ok-clause-certified
returns-in-Ok-clause-certified g c =
    let h : Recorded = c.args.history.now in
    all_certified (IsBetween 0 (segment_count h * h.head.segment)) h.head h.events c.least_of.result (covers h (segment_count h) c.segments_of-segments.ensures.sized refl) (least g c)
