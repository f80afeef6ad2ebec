use Rattle.std.proofs.Common.{List}
use Rattle.pg_event.specs.declared.event.Event.{Event}
use Rattle.pg_event.specs.Heads.{Head}
use Rattle.pg_outcomes.proofs.Meaning.{runs_before, runs_below}
use Rattle.pg_outcomes.proofs.asked.rejected_before.Goals as goal

pub returns-in-None-clause-none : goal.returns-in-None-clause-none
returns-in-None-clause-none c =
    let head : Head = c.args.history.now.head in
    let events : List Event = c.args.history.now.events in
    let certified = rw c.in-None.is at c.in_ok-first_denied.ensures.certified in
    runs_before c.certified_exactly_where_a_run_exists.ensures head events c.args.number c.events-events.ensures.well c.events-events.ensures.count c.requires certified

pub returns-else-denied-number-clause-none : goal.returns-else-denied-number-clause-none
returns-else-denied-number-clause-none c =
    let head : Head = c.args.history.now.head in
    let events : List Event = c.args.history.now.events in
    let denied = rw c.in-Some.is at c.in_ok-first_denied.ensures.denied in
    runs_below c.certified_exactly_where_a_run_exists.ensures c.denied_events_have_no_run.ensures head events c.args.number c.in-Some.denied c.events-events.ensures.well c.events-events.ensures.count c.if-denied-number.false denied
