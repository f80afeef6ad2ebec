use Rattle.std.proofs.Common.{◌≡◌, ◌-◌}
use Rattle.pg_explain.specs.Drops.{first_from, is_dropped_at, first_drop}
use Rattle.pg_explain.proofs.dropped.first_drop.Given as goal

abbrev pub invariant-loop-number : goal.invariant-loop-number
invariant-loop-number l =
    first_from (is_dropped_at l.history.head l.history.events l.p l.key) l.number (l.to - l.number)
    ≡ first_drop l.history.head l.history.events l.p l.key l.from l.to
