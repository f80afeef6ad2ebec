use Rattle.std.proofs.Common.{◌≡◌, ◌+◌, ℕ, List, Option, Some, None, refl, subst}
use Rattle.std.specs.Prelude.{IfSome}
use Rattle.pg_event.specs.declared.event.Event.{Event}
use Rattle.pg_event.specs.Spelling.{Recorded}
use Rattle.pg_search.specs.Last.{NoneWitness}
use Rattle.pg_search.specs.Law.{AreWitness, AreFreshestOf}
use Rattle.pg_reach.specs.declared.walker.Walker.{Walker}
use Rattle.pg_reach.specs.Asking.{Asks}
use Rattle.pg_reach.specs.WitnessedUpTo.{HasWitness}
use Rattle.pg_reach.proofs.Before.{AllUpTo, none_before, other_found}
use Rattle.pg_reach.proofs.last.other_last.Goals as goal

-- where no number was found, none of those before witnesses the event
none_left : (r : Recorded) (v : Walker) (e : Event) (last : Option ℕ) → ((n : ℕ) → last ≡ Some n → ⊥) → Asks v e → AllUpTo r v e last → NoneWitness r.head r.events e 0 (v.number + 1)
none_left r v e None other asks all = none_before r v e (v.number + 1) asks refl all
none_left r v e (Some n) other asks all = absurd (other n refl)

pub returns-in_default-clause-none : goal.returns-in_default-clause-none
returns-in_default-clause-none c = none_left c.args.seen.now c.args.walker c.args.event.now c.in_ok-number.field-0 c.in_default.not-Some c.requires.asks c.in_ok-number.ensures.all

pub returns-in-Some-2-clause-some : goal.returns-in-Some-2-clause-some
returns-in-Some-2-clause-some c =
    let r : Recorded = c.args.seen.now in
    let e : Event = c.args.event.now in
    let v : Walker = c.args.walker in
    let n : ℕ = c.in-Some.number in
    let ms : List ℕ = c.in-Some-2.moments in
    let all : AllUpTo r v e (Some n) = subst (AllUpTo r v e) c.in-Some.is c.in_ok-number.ensures.all in
    let has : HasWitness r e v.number n = subst (λ o. IfSome o (HasWitness r e v.number)) c.in-Some.is c.in_ok-number.ensures.some in
    let witness : AreWitness r.head r.events n e ms = subst (λ o. IfSome o (AreWitness r.head r.events n e)) c.in-Some-2.is c.in_ok-moments.ensures.some in
    let freshest : AreFreshestOf r.head r.events n e ms = subst (λ o. IfSome o (AreFreshestOf r.head r.events n e)) c.in-Some-2.is c.in_ok-moments.ensures.freshest in
    other_found r v e n ms c.pcid_by.result c.requires.asks all has witness freshest c.requires.none c.pcid_by.ensures
