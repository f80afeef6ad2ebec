use Rattle.std.proofs.Common.{◌≡◌, drop}
use Rattle.std.specs.List.{list_all}
use Rattle.pg_answers.specs.Unnamed.{may_be_unnamed}
use Rattle.pg_answers.proofs.unnamed.all_may_be_unnamed.Given as goal

abbrev pub invariant-loop-event : goal.invariant-loop-event
invariant-loop-event l =
    list_all may_be_unnamed (drop l.event-index l.events) ≡ list_all may_be_unnamed l.events
