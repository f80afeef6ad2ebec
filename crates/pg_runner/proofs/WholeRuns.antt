-- Where all processors of a script have told all, the run is whole.
use Rattle.std.proofs.Common.{◌≡◌, List, length, map, refl, sym, ◌∙◌, ap, subst}
use Rattle.std.proofs.lemmas.List.{length-map}
use Rattle.pg_event.specs.declared.record.Record.{Record}
use Rattle.pg_event.specs.Heads.{Head}
use Rattle.pg_event.specs.Spelling.{IsRecord}
use Rattle.pg_guest.specs.Reading.{Scripted, IsScript}
use Rattle.pg_world.specs.declared.receipt.Receipt.{Receipt}
use Rattle.pg_world.specs.Recording.{Recording, recorded}
use Rattle.pg_guest.specs.Held.{Held, seen}
use Rattle.pg_guest.specs.Transcripts.{AreOf, shapes_of}
use Rattle.pg_guest.specs.Turn.{Processor}
use Rattle.pg_report.specs.declared.report.Report.{Report}
use Rattle.pg_report.specs.declared.report.Verdict.TheVariants.{Yes}
use Rattle.pg_report.specs.Text.{report_of, verdict_of}
use Rattle.pg_runner.specs.declared.error.RunError.{RunError}
use Rattle.pg_runner.specs.declared.error.RunError.TheVariants as errors
use Rattle.pg_runner.specs.declared.result.RunResult.{RunResult}
use Rattle.pg_runner.specs.Lines.{IsSingleRun}
use Rattle.pg_runner.specs.Runs.{IsRunOfScript, RunsTo, record_of}
use Rattle.pg_runner.proofs.Started.{quiet_of, told_of, head_of, count_of, instructions_are}
use Rattle.pg_runner.proofs.Whole.{all_within, transcripts_seen, whose}
use Rattle.pg_runner.specs.Boards.{IsRunOf, untaken}
use Rattle.pg_runner.specs.Guests.{HaveToldAll, IsGuestRun}
use Rattle.pg_runner.specs.Live.{IsWant}

whole_of : (script : Scripted) (r : Recording) (xs : List Processor) → IsScript script → IsRecord (recorded r) → RunsTo script r xs → HaveToldAll xs → IsRunOfScript script (recorded r) (map (λ y. y.transcript) xs)
whole_of script r xs is record_is runs ended =
    let head : r.head ≡ script.head = head_of script r xs runs in
    let told = told_of script r xs is runs in record {
      end = r;
      ends = xs;
      runs = runs;
      record_is = refl;
      head = head;
      receipts_are = refl;
      whole = record {
        count = length-map xs (λ y. y.transcript) ∙ count_of script r xs runs;
        all = subst (λ (h : Head). AreOf (length h.processors) r.events) head (all_within r.head r.events record_is.well);
        events = λ p own at. let at_p = whose xs p own at in sym at_p.2 ∙ (told.told p at_p.0 at_p.1).receipts;
        shapes = λ p own at.
            let at_p = whose xs p own at in
            ap shapes_of (sym at_p.2) ∙ ended p at_p.0 at_p.1 ∙ instructions_are script r xs runs p at_p.0 at_p.1;
      };
    }

pub whole_run : (script : Scripted) (r : Recording) (hs : List Held) (trace : Record) (all : List (List Receipt)) → IsScript script → IsRecord (recorded r) → IsRunOf script r hs → HaveToldAll (map seen hs)
    → record_of trace ≡ recorded r → all ≡ map (λ h. h.transcript) hs → IsRunOfScript script (record_of trace) all
whole_run script r hs trace all is record_is run ended same told =
    let P : List (List Receipt) → Type 0 = IsRunOfScript script (recorded r) in
    subst (λ x. IsRunOfScript script x all) (sym same) (subst P (sym (told ∙ transcripts_seen hs)) (whole_of script (untaken r) (map seen hs) is record_is run.runs ended))

pub says_yes : (script : Scripted) (r : Recording) (hs : List Held) (trace : Record) (report : Report) → IsRunOf script r hs → record_of trace ≡ recorded r → report ≡ report_of (record_of trace) → report.verdict ≡ Yes
says_yes script r hs trace report run same is =
    ap (λ (x : Report). x.verdict) is ∙ ap (λ x. (report_of x).verdict) same ∙ ap verdict_of (quiet_of script (untaken r) (map seen hs) run.runs).accepted

-- ---- a run on one thread

pub single_is_guest : (script : Scripted) (result : RunResult) → IsSingleRun script result → IsGuestRun script result
single_is_guest script result single = record { run = single.run.run; report = single.report; yes = single.yes }

pub stops_as_single : (e : RunError) → e ≡ errors.Memory → IsWant e
stops_as_single e same = subst IsWant (sym same) tt
