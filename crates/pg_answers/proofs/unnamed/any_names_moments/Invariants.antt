use Rattle.std.proofs.Common.{◌≡◌, drop}
use Rattle.std.specs.List.{list_any}
use Rattle.pg_search.specs.Law.{names_moments}
use Rattle.pg_answers.proofs.unnamed.any_names_moments.Given as goal

abbrev pub invariant-loop-event : goal.invariant-loop-event
invariant-loop-event l =
    list_any names_moments (drop l.event-index l.events) ≡ list_any names_moments l.events
