use Rattle.std.proofs.Common.{◌≡◌, ◌-◌, drop}
use Rattle.pg_event.specs.Witness.{is_in_order}
use Rattle.pg_check.proofs.walk.is_in_order.Given as goal

abbrev pub invariant-loop-i : goal.invariant-loop-i
invariant-loop-i l = is_in_order l.moments l.last ≡ is_in_order (drop (l.i - 1) l.moments) l.last
