use Rattle.std.proofs.Common.{◌≡◌, ◌≤◌, ◌+◌, List, [], ◌∷◌, ap, refl, sym, subst, arith}
use Rattle.pg_event.specs.declared.invalidation.Invalidation.TheVariants.{Nothing}
use Rattle.pg_inval.specs.declared.log.LogEntry.{LogEntry}
use Rattle.pg_inval.specs.Lasts.{AreRaised}
use Rattle.pg_inval.specs.Lists.{Log}
use Rattle.pg_inval.specs.Drops.{next_moment, IsSame}
use Rattle.pg_inval.proofs.Bounded.{AreBounded-pushed}
use Rattle.pg_inval.proofs.Kept.{IsNoted-pushed, IsNoted-nothing, IsSame-refl, StandsFor-noted, DropsNothing-none, OnErr-holds}
use Rattle.pg_inval.proofs.Listings.{AreListed-longer}
use Rattle.pg_inval.proofs.Logs.{keys_at, IsRisingFrom-push, AreBefore-push, AreBefore-weaker}
use Rattle.pg_inval.proofs.drops.Drops.note_later.Goals as goal

pub invariant_of-self : goal.invariant_of-self
invariant_of-self c =
    let next : c.self.inside.next ≤ c.args.moment = rw (ap next_moment c.self.view_is) c.requires in (
      c.self.invariant.0,
      AreBefore-weaker c.self.inside.next (c.args.moment + 1) c.self.inside.log.items (omega (arith, next)) c.self.invariant.1,
      c.self.invariant.2,
      c.self.invariant.3,
    )

pub returns-in-Nothing-clause-ok : goal.returns-in-Nothing-clause-ok
returns-in-Nothing-clause-ok c =
    let old : Log = record { entries = c.self.inside.log.items; next = c.self.inside.next } in
    rw (← c.self.view_is)
    (IsNoted-nothing c.args.rules old _ c.args.moment c.args.event.now c.args.before c.in-Nothing.ensures.structures c.in-Nothing.ensures.translations refl refl)

pub returns-in-Nothing-clause-run : goal.returns-in-Nothing-clause-run
returns-in-Nothing-clause-run c = λ head events stands held count read.
    StandsFor-noted c.args.rules c.args.self.now _ head events c.args.moment c.args.event.now c.args.before stands held count read (returns-in-Nothing-clause-ok c)

pub returns-in_err-push-clause-err : goal.returns-in_err-push-clause-err
returns-in_err-push-clause-err c =
    let old : Log = record { entries = c.self.inside.log.items; next = c.self.inside.next } in
    let same : IsSame old (record { entries = c.push.new.self.items; next = c.self.inside.next })
    = subst (λ (es : List LogEntry). IsSame old (record { entries = es; next = c.self.inside.next })) (sym c.in_err-push.ensures.items) (IsSame-refl old) in
    OnErr-holds c.from_residual.result (rw (← c.self.view_is) same)

pub returns-in_err-push-clause-none : goal.returns-in_err-push-clause-none
returns-in_err-push-clause-none c = λ nothing.
    let none : c.invalidation-invalidation.result ≡ Nothing
    = DropsNothing-none c.args.rules c.invalidation-invalidation.result c.args.before c.args.event.now c.invalidation-invalidation.ensures.some c.invalidation-invalidation.ensures.structures c.invalidation-invalidation.ensures.translations nothing in
    absurd (c.in_default.not-Nothing none)

pub invariant_of-self-2 : goal.invariant_of-self-2
invariant_of-self-2 c =
    let next : c.self.inside.next ≤ c.args.moment = rw (ap next_moment c.self.view_is) c.requires in
    let log = c.self.inside.log.items in
    let e : LogEntry = record { moment = c.args.moment; p = c.processor_of-p.result; packed = c.pack.result } in
    let raised : AreRaised c.self.inside.lasts c.raise_for.new.self (keys_at e) c.args.moment = rw c.pack.ensures c.raise_for.ensures in (
      rw c.in_ok-push.ensures.items (IsRisingFrom-push 0 c.self.inside.next log e c.self.invariant.0 c.self.invariant.1 next (omega arith)),
      rw c.in_ok-push.ensures.items (AreBefore-push c.self.inside.next log e c.self.invariant.1 next),
      rw c.in_ok-push.ensures.items (AreListed-longer log (e ∷ []) c.self.inside.listed c.self.invariant.2),
      rw c.in_ok-push.ensures.items (AreBounded-pushed c.self.inside.lasts c.raise_for.new.self log e raised c.self.invariant.3),
    )

pub returns-clause-ok : goal.returns-clause-ok
returns-clause-ok c =
    let old : Log = record { entries = c.self.inside.log.items; next = c.self.inside.next } in
    rw (← c.self.view_is)
    (IsNoted-pushed c.args.rules old _ c.args.moment c.args.event.now c.args.before c.processor_of-p.result c.invalidation-invalidation.result c.pack.result c.pack.ensures c.processor_of-p.ensures
    c.invalidation-invalidation.ensures.structures c.invalidation-invalidation.ensures.translations refl c.in_ok-push.ensures.items)

pub returns-clause-run : goal.returns-clause-run
returns-clause-run c = λ head events stands held count read.
    StandsFor-noted c.args.rules c.args.self.now _ head events c.args.moment c.args.event.now c.args.before stands held count read (returns-clause-ok c)
