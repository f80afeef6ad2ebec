-- The report of a record, and its text.
use Rattle.std.specs.Prelude.{ℕ, List, ◌++◌, length, Option, Some, None, codes, decimal}
use Rattle.pg_event.specs.declared.event.Reason.{Reason}
use Rattle.pg_event.specs.declared.event.Reason.TheVariants.{Order, Entry, Context}
use Rattle.pg_event.specs.declared.event.Reason.TheVariants.{StructureDropped, TranslationDropped}
use Rattle.pg_event.specs.declared.event.Reason.TheVariants.{ForeignPcid, NotAtEvent, Rights}
use Rattle.pg_event.specs.declared.event.Reason.TheVariants.{Answer, Code, Accessed, Dirty, Assist}
use Rattle.pg_event.specs.Witness.{first_bad}
use Rattle.pg_event.specs.Spelling.{Recorded, segment_count}
use Rattle.pg_report.specs.declared.report.Verdict.{Verdict}
use Rattle.pg_report.specs.declared.report.Verdict.TheVariants.{Yes, No}
use Rattle.pg_report.specs.declared.report.Report.{Report}

abbrev pub reason_number : Reason → ℕ
reason_number Order = 1
reason_number Entry = 2
reason_number Context = 3
reason_number StructureDropped = 4
reason_number TranslationDropped = 5
reason_number ForeignPcid = 6
reason_number NotAtEvent = 7
reason_number Rights = 8
reason_number Answer = 9
reason_number Code = 10
reason_number Accessed = 11
reason_number Dirty = 12
reason_number Assist = 13

abbrev pub reason_name : Reason → List ℕ
reason_name Order = codes "order"
reason_name Entry = codes "entry"
reason_name Context = codes "context"
reason_name StructureDropped = codes "structure dropped"
reason_name TranslationDropped = codes "translation dropped"
reason_name ForeignPcid = codes "foreign PCID"
reason_name NotAtEvent = codes "absent read not at event"
reason_name Rights = codes "rights"
reason_name Answer = codes "answer"
reason_name Code = codes "code"
reason_name Accessed = codes "accessed"
reason_name Dirty = codes "dirty"
reason_name Assist = codes "assist"

abbrev pub counts_text : ℕ → ℕ → List ℕ
counts_text events segments =
    codes "events: " ++ (decimal events
    ++ (codes "\nsegments: " ++ (decimal segments ++ codes "\n")))

abbrev pub verdict_text : Verdict → List ℕ
verdict_text Yes = codes "verdict: yes\n"
verdict_text (No event reason) =
    codes "verdict: no\nevent: " ++ (decimal event
    ++ (codes "\nreason: " ++ (decimal (reason_number reason)
    ++ (codes " " ++ (reason_name reason ++ codes "\n")))))

abbrev pub report_text : Report → List ℕ
report_text r = verdict_text r.verdict ++ counts_text r.events r.segments

abbrev pub verdict_of : Option (ℕ × Reason) → Verdict
verdict_of None = Yes
verdict_of (Some bad) = No bad.0 bad.1

-- the report of a record: its first bad event, its events, and its segments
abbrev pub report_of : Recorded → Report
report_of r = record {
  verdict = verdict_of (first_bad r.head r.events);
  events = length r.events;
  segments = segment_count r;
}
