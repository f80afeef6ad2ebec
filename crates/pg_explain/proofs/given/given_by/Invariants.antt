use Rattle.std.proofs.Common.{◌≡◌, drop, map}
use Rattle.pg_chain.specs.Walked.{reading_of}
use Rattle.pg_explain.specs.Given.{given_by}
use Rattle.pg_explain.proofs.given.given_by.Given as goal

abbrev pub invariant-loop-step : goal.invariant-loop-step
invariant-loop-step l =
    given_by l.cfg l.access l.la (map reading_of (drop l.step-index l.steps))
    ≡ given_by l.cfg l.access l.la (map reading_of l.steps)
