use Rattle.std.proofs.Common.{◌≡◌, Some, refl}
use Rattle.std.specs.Prelude.{slice_get}
use Rattle.std.proofs.lemmas.Option.{slice_get_read}
use Rattle.pg_event.specs.declared.event.Event.{Event}
use Rattle.pg_reach.proofs.Histories.{event_there}
use Rattle.pg_outcomes.proofs.Steps.{ok_more}
use Rattle.pg_outcomes.proofs.asked.outcomes_of.Goals as goal

pub returns-in-Some : goal.returns-in-Some
returns-in-Some c =
    let at = event_there c.args.history.now.events c.args.number c.requires in
    (at.0, at.1, rw c.in-Some.is at c.in_ok-denied.ensures.some)

pub returns-in-None : goal.returns-in-None
returns-in-None c =
    let e : Event = c.index-events-number.result in
    let at : slice_get c.args.history.now.events c.args.number ≡ Some e = slice_get_read _ _ _ _ refl c.requires (rw c.events.ensures.events at c.index-events-number.is) in
    ok_more _ _ (λ found h. (e, at, h)) c.found_for.result c.found_for.ensures
