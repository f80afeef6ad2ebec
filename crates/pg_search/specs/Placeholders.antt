-- Events without their moments.
use Rattle.std.specs.Prelude.{[], ◌∷◌}
use Rattle.pg_event.specs.declared.event.Event.{Event}
use Rattle.pg_search.specs.Law.{with_moments}

-- the event with one moment 0 in place of its moments
abbrev pub with_placeholder : Event → Event
with_placeholder e = with_moments (0 ∷ []) e
