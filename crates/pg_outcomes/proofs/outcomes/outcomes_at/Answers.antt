use Rattle.std.proofs.Common.{◌+◌, take, get_or, ℕ, List, sym, subst, ◌∙◌}
use Rattle.pg_event.specs.declared.event.Event.{Event}
use Rattle.pg_event.specs.declared.event.Outcome.{Outcome}
use Rattle.pg_event.specs.declared.event.Outcome.TheVariants.{Page}
use Rattle.pg_event.specs.Spelling.{Recorded}
use Rattle.pg_reach.specs.ByOutcome.{found_at}
use Rattle.pg_outcomes.specs.declared.allowed.Allowed.{Allowed}
use Rattle.pg_outcomes.specs.Candidates.{AreFound, AreCandidates}
use Rattle.pg_outcomes.proofs.Steps.{next_missed, next_met, found_all, are_outcomes, told_of, none_of}
use Rattle.pg_outcomes.proofs.outcomes.outcomes_at.Goals as goal
use Rattle.pg_outcomes.proofs.outcomes.outcomes_at.Goals.{in-Some+in_ok-push, in_default}

pub loop-outcome-preserved : goal.loop-outcome-preserved
loop-outcome-preserved c =
    let r : Recorded = c.args.seen.now in
    let n : ℕ = c.args.number in
    let e : Event = c.args.event.now in
    let os : List Outcome = c.deref-outcome-items.result.now in
    let i : ℕ = c.loop-outcome.outcome-index in
    let o : Outcome = get_or os i (Page 0) in
    let xs : List Allowed = c.loop-outcome.allowed.items in
    let are : AreCandidates r n e os = subst (AreCandidates r n e) (sym c.deref-outcome-items.ensures.value) c.in_ok-candidates.ensures in
    elim c.match-get.branch as (λ _. AreFound r n e (take (i + 1) os) c.match-get.allowed.items) [
      | in-Some+in_ok-push w ↦
          let told = told_of r n e (found_at c.in_ok-by_outcome.by_outcome) o w.in-Some.moments c.in_ok-by_outcome.ensures (sym c.get.ensures ∙ w.in-Some.is) in
          let more = next_met r n e os i (Page 0) c.loop-outcome-test.true xs (record { outcome = o; moments = w.in-Some.moments }) are.rising told c.loop-outcome.invariant in
          rw w.allowed-is (subst (AreFound r n e (take (i + 1) os)) (sym w.in_ok-push.ensures.items) more)
      | in_default w ↦
          let none = none_of r n e (found_at c.in_ok-by_outcome.by_outcome) o c.in_ok-by_outcome.ensures (sym c.get.ensures ∙ w.in_default.is) in
          rw w.allowed-is (next_missed r n e os i (Page 0) c.loop-outcome-test.true xs none c.loop-outcome.invariant)
    ]

pub returns : goal.returns
returns c =
    let r : Recorded = c.args.seen.now in
    let n : ℕ = c.args.number in
    let e : Event = c.args.event.now in
    let os : List Outcome = c.deref-outcome-items.result.now in
    let are : AreCandidates r n e os = subst (AreCandidates r n e) (sym c.deref-outcome-items.ensures.value) c.in_ok-candidates.ensures in
    are_outcomes r n e os c.loop-outcome.allowed.items are (found_all r n e os c.loop-outcome.allowed.items c.loop-outcome.outcome-index c.loop-outcome-test.false c.loop-outcome.invariant)
