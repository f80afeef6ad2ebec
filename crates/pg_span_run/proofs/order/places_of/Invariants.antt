use Rattle.pg_span_run.proofs.Found.{ArePlacesIn}
use Rattle.pg_span_run.proofs.order.places_of.Given as goal

abbrev pub invariant-loop-place : goal.invariant-loop-place
invariant-loop-place l = ArePlacesIn l.numbers l.place l.places.items
