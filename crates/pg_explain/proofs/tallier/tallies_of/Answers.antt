use Rattle.pg_explain.proofs.Loops.{all_taken}
use Rattle.pg_explain.proofs.Counts.{next_met, next_missed}
use Rattle.pg_explain.proofs.tallier.tallies_of.Goals as goal
use Rattle.pg_explain.proofs.tallier.tallies_of.Goals.{in-Some+in_ok-push, in_default}

pub loop-reason-preserved : goal.loop-reason-preserved
loop-reason-preserved c =
    let bads = c.args.bads.now in
    let reasons = c.args.reasons.now in
    let i = c.loop-reason.reason-index in
    let tallies = c.loop-reason.tallies.items in
    elim c.match-branch-2.branch [
      | in-Some+in_ok-push w ↦
          let told = rw w.in-Some.is at c.in_ok-tally.ensures in
          rw w.tallies-is (next_met bads reasons i _ tallies w.push.new.self.items w.in-Some.tally c.loop-reason-test.true w.in_ok-push.ensures.items told.0 told.1 told.2 c.loop-reason.invariant)
      | in_default w ↦
          let none = rw w.in_default.is at c.in_ok-tally.ensures in
          rw w.tallies-is (next_missed bads reasons i _ tallies c.loop-reason-test.true none c.loop-reason.invariant)
    ]

pub returns : goal.returns
returns c = rw (← all_taken c.args.reasons.now c.loop-reason.reason-index c.loop-reason-test.false) c.loop-reason.invariant
