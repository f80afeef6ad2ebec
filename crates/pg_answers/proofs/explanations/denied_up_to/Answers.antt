use Rattle.std.proofs.Common.{◌≤◌, ◌^◌, ◌<◌, ℕ, length, refl, inl, inr, sym, subst, arith}
use Rattle.std.proofs.lemmas.Result.{IfOk-weaker}
use Rattle.pg_event.specs.Spelling.{Recorded}
use Rattle.pg_certify.specs.Certified.{IsDenied}
use Rattle.pg_answers.proofs.UpTo.{none_denied, none_up_to}
use Rattle.pg_answers.proofs.explanations.denied_up_to.Goals as goal

pub returns-in-None : goal.returns-in-None
returns-in-None c =
    let r : Recorded = c.args.history.now in
    let certified = rw c.in-None.is at c.in_ok-denied.ensures.certified in
    let none = none_denied r c.events-events.ensures.well c.certified_events_run.ensures c.denied_events_have_no_run.ensures c.events-events.ensures.count certified in
    IfOk-weaker c.outcomes_asked-in-None.result _ _ (λ x h. inr ((λ d le denied. none d denied), h)) c.outcomes_asked-in-None.ensures

pub returns-else-denied-number : goal.returns-else-denied-number
returns-else-denied-number c =
    let r : Recorded = c.args.history.now in
    let denied : IsDenied r.head r.events c.in-Some.denied = rw c.in-Some.is at c.in_ok-denied.ensures.denied in
    let none = none_up_to r c.args.number c.in-Some.denied denied c.if-denied-number.false in
    IfOk-weaker c.outcomes_asked.result _ _ (λ x h. inr (none, h)) c.outcomes_asked.ensures

pub returns-in_ok-denial_in-in-Some : goal.returns-in_ok-denial_in-in-Some
returns-in_ok-denial_in-in-Some c =
    let r : Recorded = c.args.history.now in
    let d : ℕ = c.in-Some.denied in
    let denied : IsDenied r.head r.events d = rw c.in-Some.is at c.in_ok-denied.ensures.denied in
    let count : length r.events < 2 ^ 32 = c.events-events.ensures.count in
    let runs = c.denied_events_have_no_run.ensures r.head r.events d c.events-events.ensures.well (omega (arith, count)) denied in
    let told = c.in_ok-denial_in-in-Some.ensures in
    let low : d ≤ c.args.number = c.if-denied-number.true in
    inl (c.in_ok-denial_in-in-Some.field-0, (d, record { denied = denied; none = runs.0; before = runs.1 }, told), subst (λ k. k ≤ c.args.number) (sym told.number) low, refl)
