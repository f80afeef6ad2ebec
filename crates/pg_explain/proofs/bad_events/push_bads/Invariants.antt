use Rattle.std.proofs.Common.{◌≡◌, ◌+◌, ◌++◌, List, drop}
use Rattle.pg_event.specs.declared.event.Event.{Event}
use Rattle.pg_event.specs.Heads.{Head}
use Rattle.pg_chain.specs.Standing.{IsPast}
use Rattle.pg_explain.specs.Bads.{bads_from}
use Rattle.pg_explain.proofs.bad_events.push_bads.Given as goal

abbrev pub invariant-loop-i : goal.invariant-loop-i
invariant-loop-i l =
    (l.memo ≡ l.fn.memo)
    × ((head : Head) (all : List Event) → IsPast l.memo head all →
    l.found.items ++ bads_from head all (l.first + l.i) (drop l.i l.events) ≡ l.fn.found.items ++ bads_from head all l.first l.events)
