use Rattle.std.proofs.Common.{◌≡◌, ◌++◌, take}
use Rattle.pg_certify.specs.Accounts.{named_from}
use Rattle.pg_certify.proofs.named_events.note_named.Given as goal

abbrev pub invariant-loop-i : goal.invariant-loop-i
invariant-loop-i l = l.named.items ≡ l.fn.named.items ++ named_from l.first (take l.i l.events)
