use Rattle.std.proofs.Common.{◌≡◌, ℕ, ◌<◌, true, false, List, length, get_or, ap, sym, ◌∙◌, subst, arith, inl, inr, Some}
use Rattle.std.specs.Prelude.{slice_get}
use Rattle.std.proofs.lemmas.Bool.{cases_eq}
use Rattle.std.proofs.lemmas.Option.{slice_get-get_or, slice_get_within}
use Rattle.pg_entry.specs.declared.Cfg.{Cfg}
use Rattle.pg_event.specs.declared.event.Event.{Event}
use Rattle.pg_event.specs.Heads.{Head}
use Rattle.pg_span_run.specs.Orders.{Spanned}
use Rattle.pg_span_refute.specs.Impossible.{may_be_given, NoMemoryGives}
use Rattle.pg_span_refute.proofs.NotGiven.{never_given}
use Rattle.pg_span_refute.proofs.impossible.first_not_given.Goals as goal

some_event : (x y : Event) → Some x ≡ Some y → x ≡ y
some_event x y h = cc

-- an event that some memory gives is none that no memory gives
is_given : (s : Spanned) (i : ℕ) (e : Event) → slice_get s.events i ≡ Some e → may_be_given s.head.cfg e ≡ true → NoMemoryGives s i → ⊥
is_given s i e there given none =
    let same : none.event ≡ e = some_event none.event e (sym none.there ∙ there) in
    let both : true ≡ false = sym given ∙ (ap (may_be_given s.head.cfg) (sym same) ∙ none.never) in
    absurd (cc)

pub loop-number-init : goal.loop-number-init
loop-number-init c = λ i lt none. omega (arith, lt)

pub returns-then-not-may_be_given-clause-found : goal.returns-then-not-may_be_given-clause-found
returns-then-not-may_be_given-clause-found c =
    let s : Spanned = c.args.run.now in
    let n : ℕ = c.loop-number.number in
    let e : Event = c.event-item.result in
    let within : n < length s.events = subst (λ (es : List Event). n < length es) c.events-event-items.ensures.events c.loop-number-test.true in
    let is : e ≡ get_or s.events n e = c.event-item.is ∙ ap (λ (es : List Event). get_or es n e) c.events-event-items.ensures.events in
    let there : slice_get s.events n ≡ Some e = slice_get-get_or s.events n e within ∙ ap Some (sym is) in
    let cfg : c.behind-run.inside.cfg ≡ s.head.cfg = ap (λ (h : Head). h.cfg) (c.behind-run.view_is ∙ c.header.ensures.header) in
    let never : may_be_given s.head.cfg e ≡ false = ap (λ (x : Cfg). may_be_given x e) (sym cfg) ∙ (sym c.may_be_given.ensures ∙ c.if-not-may_be_given.true) in
    let gives : NoMemoryGives s n = record { event = e; there = there; never = never } in
    record { within = within; gives = gives; never = never_given s n gives; least = c.loop-number.invariant }

pub loop-number-preserved : goal.loop-number-preserved
loop-number-preserved c =
    let s : Spanned = c.args.run.now in
    let n : ℕ = c.loop-number.number in
    let e : Event = c.event-item.result in
    let within : n < length s.events = subst (λ (es : List Event). n < length es) c.events-event-items.ensures.events c.loop-number-test.true in
    let is : e ≡ get_or s.events n e = c.event-item.is ∙ ap (λ (es : List Event). get_or es n e) c.events-event-items.ensures.events in
    let there : slice_get s.events n ≡ Some e = slice_get-get_or s.events n e within ∙ ap Some (sym is) in
    let cfg : c.behind-run.inside.cfg ≡ s.head.cfg = ap (λ (h : Head). h.cfg) (c.behind-run.view_is ∙ c.header.ensures.header) in
    let is_so : may_be_given s.head.cfg e ≡ true = ap (λ (x : Cfg). may_be_given x e) (sym cfg) ∙ (sym c.may_be_given.ensures ∙ c.if-not-may_be_given.false) in
    λ i lt none. elim (cases_eq i n) [
      | inl same ↦ is_given s n e there is_so (subst (NoMemoryGives s) same none)
      | inr other ↦ c.loop-number.invariant i (omega (arith, lt, other)) none
    ]

pub returns-clause-none : goal.returns-clause-none
returns-clause-none c = λ i none.
    let s : Spanned = c.args.run.now in
    let within : i < length s.events = slice_get_within s.events i none.event none.there in
    let same : length c.events-event-items.result.now ≡ length s.events = ap (λ (es : List Event). length es) c.events-event-items.ensures.events in
    c.loop-number.invariant i (omega (arith, within, same, c.loop-number-test.false)) none
