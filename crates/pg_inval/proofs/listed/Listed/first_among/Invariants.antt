use Rattle.std.proofs.Common.{take, ◌≤◌, ◌+◌, ◌*◌}
use Rattle.pg_inval.specs.Lists.{has_among, IsLeastBetween}
use Rattle.pg_inval.proofs.listed.Listed.first_among.Given as goal

abbrev pub invariant-loop-key : goal.invariant-loop-key
invariant-loop-key l =
    IsLeastBetween (has_among l.fn.log (take l.key-index l.fn.keys)) l.fn.window.from l.fn.window.to l.found
    × (l.fn.probes ≤ l.probes) × (l.probes ≤ l.fn.probes + 34 * l.key-index)
