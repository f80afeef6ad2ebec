use Rattle.std.proofs.Common.{◌≡◌, ◌<◌, ℕ, List, Option, Some, None, length, true, ap, sym, ◌∙◌, subst}
use Rattle.std.specs.Prelude.{slice_get, IfOk, IfSome, IfNone}
use Rattle.std.proofs.lemmas.Option.{slice_get-get_or}
use Rattle.std.proofs.lemmas.Result.{IfOk-weaker}
use Rattle.pg_event.specs.declared.event.Event.{Event}
use Rattle.pg_event.specs.Heads.{Head}
use Rattle.pg_event.specs.Form.{broken_rule}
use Rattle.pg_event.specs.Spelling.{Recorded}
use Rattle.pg_search.specs.declared.last.Last.{Last}
use Rattle.pg_search.specs.Last.{NoneWitness, IsLastOf, IsLast, HasNoLast}
use Rattle.pg_search.specs.Law.{names_moments}
use Rattle.pg_reach.proofs.Histories.{all_at}
use Rattle.pg_reach.proofs.last.last_moments.Goals as goal

last_there : (head : Head) (events : List Event) (i : ℕ) (e : Event) (last : Option Last) → slice_get events i ≡ Some e → IfSome last (IsLastOf head events i e) → IfSome last (IsLast head events i)
last_there head events i e None at h = tt
last_there head events i e (Some l) at h = (e, at, h)

none_there : (head : Head) (events : List Event) (i : ℕ) (e : Event) (last : Option Last) → slice_get events i ≡ Some e → IfNone last (NoneWitness head events e 0 i) → IfNone last (HasNoLast head events i)
none_there head events i e (Some l) at h = tt
none_there head events i e None at h = (e, at, h)

pub last_moments_at-requires-clause-well : goal.last_moments_at-requires-clause-well
last_moments_at-requires-clause-well c =
    let head : Head = c.args.history.now.head in
    let events : List Event = c.args.history.now.events in
    let es : List Event = c.events.result.now in
    let e : Event = c.index-events-i.result in
    let lt : c.args.i < length es = subst (λ (xs : List Event). c.args.i < length xs) (sym c.events.ensures.events) c.requires.within in
    let at : slice_get events c.args.i ≡ Some e =
    ap (λ (xs : List Event). slice_get xs c.args.i) (sym c.events.ensures.events) ∙ slice_get-get_or es c.args.i e lt ∙ ap (λ (x : Event). Some x) (sym c.index-events-i.is) in
    let well : broken_rule head e ≡ None = all_at (λ x. broken_rule head x ≡ None) events c.args.i e c.events.ensures.well at in
    subst (λ (r : Recorded). broken_rule r.head e ≡ None) (sym c.of-seen.ensures) well

pub last_moments_at-requires-clause-names : goal.last_moments_at-requires-clause-names
last_moments_at-requires-clause-names c =
    let events : List Event = c.args.history.now.events in
    let es : List Event = c.events.result.now in
    let e : Event = c.index-events-i.result in
    let lt : c.args.i < length es = subst (λ (xs : List Event). c.args.i < length xs) (sym c.events.ensures.events) c.requires.within in
    let at : slice_get events c.args.i ≡ Some e =
    ap (λ (xs : List Event). slice_get xs c.args.i) (sym c.events.ensures.events) ∙ slice_get-get_or es c.args.i e lt ∙ ap (λ (x : Event). Some x) (sym c.index-events-i.is) in
    subst (λ o. IfSome o (λ x. names_moments x ≡ true)) at c.requires.names

pub returns-clause-some : goal.returns-clause-some
returns-clause-some c =
    let head : Head = c.args.history.now.head in
    let events : List Event = c.args.history.now.events in
    let es : List Event = c.events.result.now in
    let e : Event = c.index-events-i.result in
    let lt : c.args.i < length es = subst (λ (xs : List Event). c.args.i < length xs) (sym c.events.ensures.events) c.requires.within in
    let at : slice_get events c.args.i ≡ Some e =
    ap (λ (xs : List Event). slice_get xs c.args.i) (sym c.events.ensures.events) ∙ slice_get-get_or es c.args.i e lt ∙ ap (λ (x : Event). Some x) (sym c.index-events-i.is) in
    let got : IfOk c.last_moments_at.result (λ last. IfSome last (IsLastOf head events c.args.i e)) = subst (λ (r : Recorded). IfOk c.last_moments_at.result (λ last. IfSome last (IsLastOf r.head r.events c.args.i e))) c.of-seen.ensures c.last_moments_at.ensures.some in
    IfOk-weaker c.last_moments_at.result _ _ (λ last h. last_there head events c.args.i e last at h) got

pub returns-clause-none : goal.returns-clause-none
returns-clause-none c =
    let head : Head = c.args.history.now.head in
    let events : List Event = c.args.history.now.events in
    let es : List Event = c.events.result.now in
    let e : Event = c.index-events-i.result in
    let lt : c.args.i < length es = subst (λ (xs : List Event). c.args.i < length xs) (sym c.events.ensures.events) c.requires.within in
    let at : slice_get events c.args.i ≡ Some e =
    ap (λ (xs : List Event). slice_get xs c.args.i) (sym c.events.ensures.events) ∙ slice_get-get_or es c.args.i e lt ∙ ap (λ (x : Event). Some x) (sym c.index-events-i.is) in
    let got : IfOk c.last_moments_at.result (λ last. IfNone last (NoneWitness head events e 0 c.args.i)) = subst (λ (r : Recorded). IfOk c.last_moments_at.result (λ last. IfNone last (NoneWitness r.head r.events e 0 c.args.i))) c.of-seen.ensures c.last_moments_at.ensures.none in
    IfOk-weaker c.last_moments_at.result _ _ (λ last h. none_there head events c.args.i e last at h) got
