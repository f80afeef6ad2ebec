use Rattle.std.proofs.Common.{◌≡◌, ◌<◌, ◌^◌, ℕ, List, Option, Some, None, length, true, ap, sym, ◌∙◌, subst, arith}
use Rattle.std.specs.Prelude.{slice_get, IfOk, IfSome, IfNone}
use Rattle.std.proofs.lemmas.Option.{slice_get-get_or}
use Rattle.std.proofs.lemmas.Result.{IfOk-weaker}
use Rattle.pg_event.specs.declared.event.Event.{Event}
use Rattle.pg_event.specs.Heads.{Head}
use Rattle.pg_event.specs.Form.{broken_rule}
use Rattle.pg_event.specs.Spelling.{Recorded}
use Rattle.pg_search.specs.Law.{names_moments, AreWitness, WitnessedBy, AreFreshest, CanBeWitnessed, RunBeginsWith, UnwitnessedEventsHaveNoRun}
use Rattle.pg_search.specs.Law.{AreFreshestOf}
use Rattle.pg_reach.proofs.Histories.{some_same, all_at}
use Rattle.pg_reach.proofs.finder.freshest_moments.Goals as goal

no_run : (head : Head) (events : List Event) (i : ℕ) (found : Option (List ℕ)) → UnwitnessedEventsHaveNoRun → i < length events → length events < 2 ^ 32 → IfNone found (CanBeWitnessed head events i → ⊥) →
    IfNone found (RunBeginsWith head events i → ⊥)
no_run head events i (Some ws) law lt count h = tt
no_run head events i None law lt count h = law head events i lt (omega (arith, lt, count)) h

-- of an event that a run has

found_there : (head : Head) (events : List Event) (i : ℕ) (e : Event) (found : Option (List ℕ)) → slice_get events i ≡ Some e → IfSome found (AreWitness head events i e) → IfSome found (WitnessedBy head events i)
found_there head events i e None at h = tt
found_there head events i e (Some ws) at h = (e, at, h)

freshest_there : (head : Head) (events : List Event) (i : ℕ) (e : Event) (found : Option (List ℕ)) → slice_get events i ≡ Some e → IfSome found (AreFreshestOf head events i e) → IfSome found (AreFreshest head events i)
freshest_there head events i e None at h = tt
freshest_there head events i e (Some ms) at h = λ us by.
    let same : by.0 ≡ e = some_same by.0 e (sym by.1 ∙ at) in
    h us (subst (λ x. AreWitness head events i x us) same by.2)

none_there : (head : Head) (events : List Event) (i : ℕ) (e : Event) (found : Option (List ℕ)) → slice_get events i ≡ Some e → IfNone found ((ws : List ℕ) → AreWitness head events i e ws → ⊥) →
    IfNone found (CanBeWitnessed head events i → ⊥)
none_there head events i e (Some ws) at h = tt
none_there head events i e None at h = λ can.
    let same : can.1.0 ≡ e = some_same can.1.0 e (sym can.1.1 ∙ at) in
    h can.0 (subst (λ x. AreWitness head events i x can.0) same can.1.2)

pub freshest_moments_at-requires-clause-well : goal.freshest_moments_at-requires-clause-well
freshest_moments_at-requires-clause-well c =
    let head : Head = c.args.history.now.head in
    let events : List Event = c.args.history.now.events in
    let es : List Event = c.events.result.now in
    let e : Event = c.index-events-i.result in
    let lt : c.args.i < length es = subst (λ (xs : List Event). c.args.i < length xs) (sym c.events.ensures.events) c.requires.within in
    let at : slice_get events c.args.i ≡ Some e =
    ap (λ (xs : List Event). slice_get xs c.args.i) (sym c.events.ensures.events) ∙ slice_get-get_or es c.args.i e lt ∙ ap (λ (x : Event). Some x) (sym c.index-events-i.is) in
    let well : broken_rule head e ≡ None = all_at (λ x. broken_rule head x ≡ None) events c.args.i e c.events.ensures.well at in
    subst (λ (r : Recorded). broken_rule r.head e ≡ None) (sym c.of-seen.ensures) well

pub freshest_moments_at-requires-clause-names : goal.freshest_moments_at-requires-clause-names
freshest_moments_at-requires-clause-names c =
    let head : Head = c.args.history.now.head in
    let events : List Event = c.args.history.now.events in
    let es : List Event = c.events.result.now in
    let e : Event = c.index-events-i.result in
    let lt : c.args.i < length es = subst (λ (xs : List Event). c.args.i < length xs) (sym c.events.ensures.events) c.requires.within in
    let at : slice_get events c.args.i ≡ Some e =
    ap (λ (xs : List Event). slice_get xs c.args.i) (sym c.events.ensures.events) ∙ slice_get-get_or es c.args.i e lt ∙ ap (λ (x : Event). Some x) (sym c.index-events-i.is) in
    subst (λ o. IfSome o (λ x. names_moments x ≡ true)) at c.requires.names

pub returns-clause-some : goal.returns-clause-some
returns-clause-some c =
    let head : Head = c.args.history.now.head in
    let events : List Event = c.args.history.now.events in
    let es : List Event = c.events.result.now in
    let e : Event = c.index-events-i.result in
    let lt : c.args.i < length es = subst (λ (xs : List Event). c.args.i < length xs) (sym c.events.ensures.events) c.requires.within in
    let at : slice_get events c.args.i ≡ Some e =
    ap (λ (xs : List Event). slice_get xs c.args.i) (sym c.events.ensures.events) ∙ slice_get-get_or es c.args.i e lt ∙ ap (λ (x : Event). Some x) (sym c.index-events-i.is) in
    let got : IfOk c.freshest_moments_at.result (λ found. IfSome found (AreWitness head events c.args.i e)) = subst (λ (r : Recorded). IfOk c.freshest_moments_at.result (λ found. IfSome found (AreWitness r.head r.events c.args.i e))) c.of-seen.ensures c.freshest_moments_at.ensures.some in
    IfOk-weaker c.freshest_moments_at.result _ _ (λ found h. found_there head events c.args.i e found at h) got

pub returns-clause-freshest : goal.returns-clause-freshest
returns-clause-freshest c =
    let head : Head = c.args.history.now.head in
    let events : List Event = c.args.history.now.events in
    let es : List Event = c.events.result.now in
    let e : Event = c.index-events-i.result in
    let lt : c.args.i < length es = subst (λ (xs : List Event). c.args.i < length xs) (sym c.events.ensures.events) c.requires.within in
    let at : slice_get events c.args.i ≡ Some e =
    ap (λ (xs : List Event). slice_get xs c.args.i) (sym c.events.ensures.events) ∙ slice_get-get_or es c.args.i e lt ∙ ap (λ (x : Event). Some x) (sym c.index-events-i.is) in
    let got : IfOk c.freshest_moments_at.result (λ found. IfSome found (AreFreshestOf head events c.args.i e)) = subst (λ (r : Recorded). IfOk c.freshest_moments_at.result (λ found. IfSome found (AreFreshestOf r.head r.events c.args.i e))) c.of-seen.ensures c.freshest_moments_at.ensures.freshest in
    IfOk-weaker c.freshest_moments_at.result _ _ (λ found h. freshest_there head events c.args.i e found at h) got

pub returns-clause-none : goal.returns-clause-none
returns-clause-none c =
    let head : Head = c.args.history.now.head in
    let events : List Event = c.args.history.now.events in
    let es : List Event = c.events.result.now in
    let e : Event = c.index-events-i.result in
    let lt : c.args.i < length es = subst (λ (xs : List Event). c.args.i < length xs) (sym c.events.ensures.events) c.requires.within in
    let at : slice_get events c.args.i ≡ Some e =
    ap (λ (xs : List Event). slice_get xs c.args.i) (sym c.events.ensures.events) ∙ slice_get-get_or es c.args.i e lt ∙ ap (λ (x : Event). Some x) (sym c.index-events-i.is) in
    let got : IfOk c.freshest_moments_at.result (λ found. IfNone found ((ws : List ℕ) → AreWitness head events c.args.i e ws → ⊥)) = subst (λ (r : Recorded). IfOk c.freshest_moments_at.result (λ found. IfNone found ((ws : List ℕ) → AreWitness r.head r.events c.args.i e ws → ⊥))) c.of-seen.ensures c.freshest_moments_at.ensures.none in
    IfOk-weaker c.freshest_moments_at.result _ _ (λ found h. none_there head events c.args.i e found at h) got

pub returns-clause-run : goal.returns-clause-run
returns-clause-run c =
    IfOk-weaker c.freshest_moments_at.result _ _ (λ found h. no_run c.args.history.now.head c.args.history.now.events c.args.i found c.unwitnessed_events_have_no_run.ensures c.requires.within c.events.ensures.count h) (returns-clause-none c)
