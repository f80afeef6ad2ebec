use Rattle.std.proofs.Common.{◌≡◌, ◌<◌, ◌^◌, ℕ, true, false, List, length, Some, refl, sym, subst, ◌∙◌, arith}
use Rattle.std.specs.Prelude.{slice_get}
use Rattle.std.proofs.lemmas.Option.{slice_get_read}
use Rattle.pg_event.specs.declared.event.Event.{Event}
use Rattle.pg_event.specs.Heads.{Head}
use Rattle.pg_event.specs.Spelling.{Recorded}
use Rattle.pg_search.specs.Law.{names_moments}
use Rattle.pg_certify.specs.Certified.{IsDenied}
use Rattle.pg_outcomes.specs.declared.allowed.Allowed.{Allowed}
use Rattle.pg_outcomes.specs.Placed.{is_access}
use Rattle.pg_outcomes.specs.Allowing.{AreOutcomes}
use Rattle.pg_outcomes.specs.Asked.{MayCome}
use Rattle.pg_answers.specs.Giving.{AreTold}
use Rattle.pg_answers.proofs.outcomes.outcomes_answer.Goals as goal

one_event : (e x : Event) → Some e ≡ Some x → e ≡ x
one_event e x h = cc

pub returns-in_ok-denial_in-in-Rejected : goal.returns-in_ok-denial_in-in-Rejected
returns-in_ok-denial_in-in-Rejected c =
    let head : Head = c.args.history.now.head in
    let events : List Event = c.args.history.now.events in
    let d : ℕ = c.in-Rejected.denied in
    let h = rw c.in-Rejected.is at c.in_ok-denied.ensures in
    let denied : IsDenied head events d = h.2.1 in
    let below : d < c.args.number = h.2.0 in
    let count : length events < 2 ^ 32 = c.events.ensures.count in
    let runs = c.denied_events_have_no_run.ensures head events d c.events.ensures.well (omega (arith, count)) denied in
    let told = c.in_ok-denial_in-in-Rejected.ensures in
    ((d, record { denied = denied; none = runs.0; before = runs.1 }, told), subst (λ k. k < c.args.number) (sym told.number) below)

pub returns-in_ok-told-in-Outcomes : goal.returns-in_ok-told-in-Outcomes
returns-in_ok-told-in-Outcomes c =
    let r : Recorded = c.args.history.now in
    let n : ℕ = c.args.number in
    let e : Event = c.index-events-number.result in
    let at : slice_get r.events n ≡ Some e = slice_get_read _ _ _ _ refl c.requires (rw c.events.ensures.events at c.index-events-number.is) in
    let h = rw c.in-Outcomes.is at c.in_ok-denied.ensures in
    let same : h.0 ≡ e = one_event h.0 e (sym h.1 ∙ at) in
    record {
      number = refl;
      event = at;
      access = subst (λ x. is_access x ≡ true) same h.2.0;
      run = h.2.1;
      outcomes = subst (λ x. AreOutcomes r n x c.in-Outcomes.found.items) same h.2.2;
      told = subst (λ (q : Recorded). AreTold q e c.args.most c.in-Outcomes.found.items c.in_ok-told-in-Outcomes.told.items) c.of.ensures
          (subst (λ (xs : List Allowed). AreTold c.of.result e c.args.most xs c.in_ok-told-in-Outcomes.told.items) c.deref.ensures.value c.in_ok-told-in-Outcomes.ensures);
      bound = refl;
    }

pub returns-in-Assist : goal.returns-in-Assist
returns-in-Assist c =
    let r : Recorded = c.args.history.now in
    let n : ℕ = c.args.number in
    let e : Event = c.index-events-number.result in
    let at : slice_get r.events n ≡ Some e = slice_get_read _ _ _ _ refl c.requires (rw c.events.ensures.events at c.index-events-number.is) in
    let h = rw c.in-Assist.is at c.in_ok-denied.ensures in
    let same : h.0 ≡ e = one_event h.0 e (sym h.1 ∙ at) in
    record {
      number = refl;
      event = at;
      assist = (subst (λ x. is_access x ≡ false) same h.2.0, subst (λ x. names_moments x ≡ true) same h.2.1);
      run = h.2.2;
      may = subst (λ x. MayCome r n x c.in-Assist.moments) same h.2.3;
    }
