use Rattle.std.proofs.Common.{◌≡◌, drop, map}
use Rattle.pg_chain.specs.Walked.{reading_of}
use Rattle.pg_explain.specs.Lacking.{lacking_in}
use Rattle.pg_explain.proofs.lacking.lacking_in.Given as goal

abbrev pub invariant-loop-step : goal.invariant-loop-step
invariant-loop-step l =
    lacking_in l.cfg l.claim (map reading_of (drop l.step-index l.steps)) ≡ lacking_in l.cfg l.claim (map reading_of l.steps)
