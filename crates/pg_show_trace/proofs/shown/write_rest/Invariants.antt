use Rattle.std.proofs.Common.{◌≡◌, ℕ, List, [], Option, Ok, length}
use Rattle.pg_event.specs.declared.event.Event.{Event}
use Rattle.pg_event.specs.declared.version.Version.TheVariants.{Two}
use Rattle.pg_event.specs.Heads.{Head}
use Rattle.pg_report.specs.Changes.{filled}
use Rattle.pg_report.specs.Going.{IsGoing}
use Rattle.pg_show_trace.specs.Given.{WritesPart}
use Rattle.pg_show_trace.specs.Texts.{scene_items}
use Rattle.pg_show_trace.proofs.shown.write_rest.Given as goal

abbrev pub invariant-loop : goal.invariant-loop
invariant-loop g l =
    (events : List Event) × (l.number ≡ length events)
    × WritesPart {A = Unit {0}} (scene_items l.scene 0 events) (filled g.O.Sink l.fn.output l.output) (Ok tt)
    × ((head : Head) × (start : Option (List ℕ)) × (f : ℕ) × IsGoing g.R.Source Two start f (l.reader.unread, l.source) l.reader.stage (record { head = head; events = events }) l.counter)
    × ((head : Head) (start : Option (List ℕ)) (f : ℕ) → IsGoing g.R.Source Two start f (l.fn.reader.unread, l.fn.source) l.fn.reader.stage (record { head = head; events = [] }) 0
    → IsGoing g.R.Source Two start f (l.reader.unread, l.source) l.reader.stage (record { head = head; events = events }) l.counter)
