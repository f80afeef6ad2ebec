use Rattle.std.proofs.Common.{◌≡◌, ◌++◌, map, take}
use Rattle.pg_search.specs.Changes.{kept_of}
use Rattle.pg_search.proofs.kept_run.KeptRun.extend.Given as goal

abbrev pub invariant-loop-event : goal.invariant-loop-event
invariant-loop-event l = l.self ≡ record { head = l.fn.self.head; events = l.fn.self.events ++ map kept_of (take l.event-index l.events) }
