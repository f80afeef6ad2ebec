-- The events that a search sees, as somebody has kept them.
use Rattle.std.specs.Prelude.{List}
use Rattle.pg_event.specs.declared.event.Event.{Event}
use Rattle.pg_search.specs.declared.seen.Events.{Events}
use Rattle.pg_search.specs.declared.seen.Events.TheVariants.{Whole, Kept}

abbrev pub events_in : Events → List Event
events_in (Whole events) = events.now
events_in (Kept kept) = kept.now.events
