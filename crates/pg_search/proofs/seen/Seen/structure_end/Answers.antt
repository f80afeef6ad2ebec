use Rattle.std.proofs.Common.{◌≡◌, ◌≤◌, Bool, true, false, List, Some, None, not, subst, inl, inr, arith}
use Rattle.std.proofs.lemmas.Bool.{cases_lt}
use Rattle.pg_event.specs.Heads.{Head}
use Rattle.pg_event.specs.Spelling.{Recorded}
use Rattle.pg_event.specs.declared.control.Control.{Control}
use Rattle.pg_event.specs.declared.event.Event.{Event}
use Rattle.pg_event.specs.Invalidation.{structure_key, must_drop_structure}
use Rattle.pg_chain.specs.Standing.{IsPast}
use Rattle.pg_search.proofs.Survival.{dropped_at, IsStructureDrop}
use Rattle.pg_search.proofs.seen.Seen.structure_end.Goals as goal

not_false : (b : Bool) → not b ≡ false → b ≡ true
not_false true h = cc
not_false false h = absurd (cc)

not_true : (b : Bool) → not b ≡ true → b ≡ false
not_true true h = absurd (cc)
not_true false h = cc

apart : {b : Bool} → b ≡ true → b ≡ false → ⊥
apart h k = cc

pub returns-in-Some : goal.returns-in-Some
returns-in-Some c =
    let head : Head = c.args.self.now.head in
    let events : List Event = c.args.self.now.events in
    let drop : Control → Event → Bool = λ d e. must_drop_structure head.cfg.rules d e (structure_key c.args.lookup.pcid c.args.level c.args.lookup.la) in
    let stands : IsPast c.self.inside.past.now head events = subst (λ (r : Recorded). IsPast c.self.inside.past.now r.head r.events) c.self.view_is c.self.invariant.stands in
    let first = subst (IsStructureDrop head events c.args.lookup.p c.args.from (Some c.in-Some.first)) c.structure_key-key.ensures (c.in-Some.ensures.run head events stands) in
    record {
      order = first.0;
      lasts = not_false _ first.2;
      most = λ w fits lasts. elim (cases_lt c.in-Some.first w) as (λ _. w ≤ c.in-Some.first) [
        | inl lt ↦ absurd (apart lasts (dropped_at head events c.args.lookup.p drop c.args.from c.in-Some.first w first.0 lt (not_true _ first.3)))
        | inr le ↦ le
      ];
    }

pub returns-in-None : goal.returns-in-None
returns-in-None c =
    let head : Head = c.args.self.now.head in
    let events : List Event = c.args.self.now.events in
    let stands : IsPast c.self.inside.past.now head events = subst (λ (r : Recorded). IsPast c.self.inside.past.now r.head r.events) c.self.view_is c.self.invariant.stands in
    let none = subst (IsStructureDrop head events c.args.lookup.p c.args.from None) c.structure_key-key.ensures (c.in-None.ensures.run head events stands) in
    record {
      order = omega (arith, c.ranges.from.fits);
      lasts = not_false _ none;
      most = λ w fits lasts. omega (arith, fits);
    }
