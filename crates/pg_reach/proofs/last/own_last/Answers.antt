use Rattle.std.proofs.Common.{ℕ, List, Some, subst}
use Rattle.std.specs.Prelude.{IfSome}
use Rattle.pg_event.specs.declared.event.Event.{Event}
use Rattle.pg_event.specs.Spelling.{Recorded}
use Rattle.pg_search.specs.Law.{AreWitness, AreFreshestOf}
use Rattle.pg_reach.specs.declared.walker.Walker.{Walker}
use Rattle.pg_reach.specs.WitnessedUpTo.{HasWitnessUnder, AreUpTo}
use Rattle.pg_reach.proofs.Before.{own_found}
use Rattle.pg_reach.proofs.last.own_last.Goals as goal

pub returns-in-Some-2-clause-some : goal.returns-in-Some-2-clause-some
returns-in-Some-2-clause-some c =
    let r : Recorded = c.args.seen.now in
    let e : Event = c.args.event.now in
    let v : Walker = c.args.walker in
    let n : ℕ = c.in-Some.number in
    let ms : List ℕ = c.in-Some-2.moments in
    let all : AreUpTo r v e (Some n) = subst (AreUpTo r v e) c.in-Some.is c.in_ok-number.ensures.all in
    let has : HasWitnessUnder r v e n = subst (λ o. IfSome o (HasWitnessUnder r v e)) c.in-Some.is c.in_ok-number.ensures.some in
    let witness : AreWitness r.head r.events n e ms = subst (λ o. IfSome o (AreWitness r.head r.events n e)) c.in-Some-2.is c.in_ok-moments.ensures.some in
    let freshest : AreFreshestOf r.head r.events n e ms = subst (λ o. IfSome o (AreFreshestOf r.head r.events n e)) c.in-Some-2.is c.in_ok-moments.ensures.freshest in
    own_found r v e c.requires.asks c.requires.own n ms all has witness freshest
