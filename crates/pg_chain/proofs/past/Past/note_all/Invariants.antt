use Rattle.std.proofs.Common.{◌≡◌, List, ◌++◌, length, take}
use Rattle.pg_event.specs.declared.event.Event.{Event}
use Rattle.pg_event.specs.Heads.{Head}
use Rattle.pg_chain.specs.Standing.{IsPast}
use Rattle.pg_chain.proofs.past.Past.note_all.Given as goal

abbrev pub invariant-loop-i : goal.invariant-loop-i
invariant-loop-i l = record {
  stands : (head : Head) (before : List Event) → IsPast l.fn.self head before → l.first ≡ length before → IsPast l.self head (before ++ take l.i l.events);
}
