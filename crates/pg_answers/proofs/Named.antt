-- The record with moments that were found for its events.
use Rattle.std.proofs.Common.{List, refl}
use Rattle.pg_event.specs.declared.event.Event.{Event}
use Rattle.pg_event.specs.Heads.{HoldsToAll}
use Rattle.pg_event.specs.Spelling.{Recorded, IsRecord, record_bytes}
use Rattle.pg_check.specs.Kept.{AreWellFormed}
use Rattle.pg_run_of.proofs.Whole.{accepted_events_run}
use Rattle.pg_certify.specs.Certified.{IsCertified}
use Rattle.pg_certify.proofs.Named.{well_alike, found_record}
use Rattle.pg_report.proofs.Verdicts.{one}
use Rattle.pg_answers.specs.declared.shown.Naming.TheVariants.{Named}
use Rattle.pg_answers.specs.Naming.{IsNaming, with_events}

-- moments that certify the events of a record make it an accepted one
pub is_named : (r : Recorded) (found : List Event) → AreWellFormed r.head r.events → IsCertified r.head r.events found → IsNaming r Named (record_bytes (with_events r found))
is_named r found well h =
    let named : Recorded = with_events r found in
    let formed : AreWellFormed r.head found = well_alike r.head found r.events h.same well in (
      named,
      record { head = refl; same = h.same; accepted = h.good; run = accepted_events_run r.head found formed h.good },
      refl,
      λ (is : IsRecord r) (all : HoldsToAll r.head).
          one (record_bytes named) named (found_record r found is h, refl, all),
    )
