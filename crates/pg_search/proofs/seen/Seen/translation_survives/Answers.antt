use Rattle.std.proofs.Common.{◌≡◌, ℕ, ◌≤◌, ◌-◌, ◌^◌, Bool, true, false, List, Some, None, not, nat_le, sym, ◌∙◌, refl, subst, inl, inr, arith}
use Rattle.std.proofs.lemmas.Bool.{cases_Bool, leb-true, le-leb}
use Rattle.pg_event.specs.Heads.{Head}
use Rattle.pg_event.specs.Spelling.{Recorded}
use Rattle.pg_event.specs.declared.control.Control.{Control}
use Rattle.pg_event.specs.declared.event.Event.{Event}
use Rattle.pg_event.specs.Invalidation.{translation_key, must_drop_translation}
use Rattle.pg_event.specs.Witness.{survives}
use Rattle.pg_chain.specs.Standing.{IsPast}
use Rattle.pg_search.proofs.Survival.{survives_within, dropped_at, IsTranslationDrop}
use Rattle.pg_search.proofs.seen.Seen.translation_survives.Goals as goal

not_false : (b : Bool) → not b ≡ false → b ≡ true
not_false true h = refl
not_false false h = absurd (cc)

not_true : (b : Bool) → not b ≡ true → b ≡ false
not_true true h = absurd (cc)
not_true false h = refl

pub returns-in-Some : goal.returns-in-Some
returns-in-Some c =
    let head : Head = c.args.self.now.head in
    let events : List Event = c.args.self.now.events in
    let drop : Control → Event → Bool = λ d e. must_drop_translation head.cfg.rules d e (translation_key c.args.lookup.pcid c.args.shift c.args.global c.args.lookup.la) in
    let stands : IsPast c.self.inside.past.now head events = subst (λ (r : Recorded). IsPast c.self.inside.past.now r.head r.events) c.self.view_is c.self.invariant.stands in
    let first = subst (IsTranslationDrop head events c.args.lookup.p c.args.from (Some c.in-Some.first)) c.translation_key-key.ensures (c.in-Some.ensures.run head events stands) in
    elim (cases_Bool (nat_le c.args.to c.in-Some.first)) as (λ _. nat_le c.args.to c.in-Some.first ≡ survives head events c.args.lookup.p drop c.args.from c.args.to) [
      | inl t ↦ t ∙ sym (survives_within head events c.args.lookup.p drop c.args.from c.args.to c.in-Some.first (leb-true _ _ t) (not_false _ first.2))
      | inr f ↦ f ∙ sym (dropped_at head events c.args.lookup.p drop c.args.from c.in-Some.first c.args.to first.0 (omega (arith, above _ _ f)) (not_true _ first.3))
    ]
  where
    above : (a b : ℕ) → nat_le a b ≡ false → a ≤ b → ⊥
    above a b f low = apart (sym (le-leb a b low) ∙ f)
      where
        apart : true ≡ false → ⊥
        apart e = cc

pub returns-in-None : goal.returns-in-None
returns-in-None c =
    let head : Head = c.args.self.now.head in
    let events : List Event = c.args.self.now.events in
    let drop : Control → Event → Bool = λ d e. must_drop_translation head.cfg.rules d e (translation_key c.args.lookup.pcid c.args.shift c.args.global c.args.lookup.la) in
    let stands : IsPast c.self.inside.past.now head events = subst (λ (r : Recorded). IsPast c.self.inside.past.now r.head r.events) c.self.view_is c.self.invariant.stands in
    let none = subst (IsTranslationDrop head events c.args.lookup.p c.args.from None) c.translation_key-key.ensures (c.in-None.ensures.run head events stands) in
    sym (survives_within head events c.args.lookup.p drop c.args.from c.args.to (2 ^ 32 - 1) (omega (arith, c.ranges.to.fits)) (not_false _ none))
