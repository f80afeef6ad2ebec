-- Where all lines are carried out, all is told.
use Rattle.std.proofs.Common.{◌≡◌, ℕ, zero, suc, List, [], ◌∷◌, ◌++◌, length, map, take, refl, sym, ◌∙◌, ap, subst, arith, Some, None}
use Rattle.std.specs.Prelude.{slice_get}
use Rattle.std.specs.List.{AllByRecursion}
use Rattle.std.proofs.lemmas.List.{take_all, drop_all, length-map}
use Rattle.std.proofs.lemmas.Option.{same_Some}
use Rattle.pg_event.specs.declared.event.Event.{Event}
use Rattle.pg_event.specs.Form.{broken_rule}
use Rattle.pg_event.specs.Heads.{Head}
use Rattle.pg_event.specs.Spelling.{IsRecord}
use Rattle.pg_event.proofs.Events.{processor_within}
use Rattle.pg_guest.specs.Reading.{Scripted, IsScript}
use Rattle.pg_guest.specs.Tasks.{instructions_of}
use Rattle.pg_world.specs.declared.receipt.Receipt.{Receipt}
use Rattle.pg_world.specs.Recording.{Recording, recorded}
use Rattle.pg_guest.specs.Transcripts.{AreOf, IsTold, shapes_of}
use Rattle.pg_guest.specs.Turn.{Processor, fresh}
use Rattle.pg_runner.specs.Lines.{AreCarriedOut, CarriesOutLines, tasks_of}
use Rattle.pg_guest.specs.Held.{Held, seen}
use Rattle.pg_guest.specs.Runs.{AreNew}
use Rattle.pg_guest.specs.CoreRun.{unwritten}
use Rattle.pg_event.specs.declared.record.Record.{Record}
use Rattle.pg_report.specs.declared.report.Report.{Report}
use Rattle.pg_report.specs.declared.report.Verdict.TheVariants.{Yes}
use Rattle.pg_report.specs.Text.{report_of, verdict_of}
use Rattle.pg_runner.specs.Runs.{record_of}
use Rattle.pg_runner.proofs.Started.{quiet_of, told_of, head_of, count_of, instructions_are}

pub all_within : (head : Head) (es : List Event) → AllByRecursion (λ e. broken_rule head e ≡ None) es → AreOf (length head.processors) es
all_within head [] well = tt
all_within head (e ∷ es) well = (processor_within head e well.0, all_within head es well.1)

-- the processor whose transcript stands at this place
abbrev pub transcripts : List Processor → List (List Receipt)
transcripts xs = map (λ y. y.transcript) xs

pub whose : (xs : List Processor) (p : ℕ) (own : List Receipt) → slice_get (transcripts xs) p ≡ Some own → (x : Processor) × (slice_get xs p ≡ Some x) × (x.transcript ≡ own)
whose [] p own at = absurd (cc)
whose (x ∷ xs) zero own at = (x, refl, same_Some x.transcript own at)
whose (x ∷ xs) (suc p) own at = whose xs p own at

-- all instructions were carried out where the place is their count
pub told_all : (events : List Event) (p : ℕ) (x : Processor) → IsTold events p x → x.place ≡ length x.instructions → shapes_of x.transcript ≡ x.instructions
told_all events p x told place = told.shapes ∙ ap (λ n. take n x.instructions) place ∙ take_all (length x.instructions) x.instructions (omega arith)

pub all_lines : (script : Scripted) (r : Recording) (xs : List Processor) → IsScript script → IsRecord (recorded r) → AreCarriedOut script (length script.tasks) r xs →
    CarriesOutLines script (recorded r) (map (λ y. y.transcript) xs)
all_lines script r xs is record_is out =
    let every : take (length script.tasks) script.tasks ≡ script.tasks = take_all (length script.tasks) script.tasks (omega arith) in
    let head : r.head ≡ script.head = head_of script r xs out.runs in
    let told = told_of script r xs is out.runs in record {
      run = record {
        end = r;
        ends = xs;
        runs = out.runs;
        record_is = refl;
        head = head;
        receipts_are = refl;
        whole = record {
          count = length-map xs (λ y. y.transcript) ∙ count_of script r xs out.runs;
          all = subst (λ (h : Head). AreOf (length h.processors) r.events) head (all_within r.head r.events record_is.well);
          events = λ p own at. let at_p = whose xs p own at in sym at_p.2 ∙ (told.told p at_p.0 at_p.1).receipts;
          shapes = λ p own at.
              let at_p = whose xs p own at in
              let x : Processor = at_p.0 in
              let own_is : x.instructions ≡ instructions_of p script.tasks = instructions_are script r xs out.runs p x at_p.1 in
              let place : x.place ≡ length x.instructions = out.places p x at_p.1 ∙ ap (λ ts. length (instructions_of p ts)) every ∙ ap length (sym own_is) in
              ap shapes_of (sym at_p.2) ∙ told_all r.events p x (told.told p x at_p.1) place ∙ own_is;
        };
      };
      lines = out.lines ∙ every;
      order = out.order;
      left = out.left ∙ drop_all (length script.tasks) script.tasks (omega arith);
    }

-- ---- before the first line

seen_at : (P : ℕ → Processor → Type 0) (hs : List Held) → ((p : ℕ) (h : Held) → slice_get hs p ≡ Some h → P p (seen h)) → (p : ℕ) (x : Processor) → slice_get (map seen hs) p ≡ Some x → P p x
seen_at P [] all p x at = absurd (cc)
seen_at P (h ∷ hs) all zero x at = subst (P 0) (same_Some (seen h) x at) (all 0 h refl)
seen_at P (h ∷ hs) all (suc p) x at = seen_at (λ n. P (suc n)) hs (λ q g. all (suc q) g) p x at

pub none_carried : (script : Scripted) (r : Recording) (hs : List Held) → r ≡ unwritten script.head → AreNew script hs → AreCarriedOut script 0 r (map seen hs)
none_carried script r hs is new = record {
  runs = record {
    start = map seen hs;
    started = record {
      count = length-map hs seen ∙ new.count;
      each = seen_at (λ p x. x ≡ fresh script.head p (instructions_of p script.tasks)) hs (λ p h at. (new.each p h at).fresh_is);
    };
    turns = [];
    answers = [];
    run = (refl, is, refl);
  };
  order = refl;
  left = refl;
  lines = ap (λ (r : Recording). tasks_of r.events) is;
  places = seen_at (λ p x. x.place ≡ 0) hs (λ p h at. ap (λ (x : Processor). x.place) (new.each p h at).fresh_is);
}

-- ---- after the last

pub transcripts_seen : (hs : List Held) → map (λ h. h.transcript) hs ≡ transcripts (map seen hs)
transcripts_seen [] = refl
transcripts_seen (h ∷ hs) = ap (λ ts. h.transcript ∷ ts) (transcripts_seen hs)

pub lines_done : (script : Scripted) (r : Recording) (hs : List Held) (trace : Record) (all : List (List Receipt)) → IsScript script → IsRecord (recorded r) → AreCarriedOut script (length script.tasks) r (map seen hs)
    → record_of trace ≡ recorded r → all ≡ map (λ h. h.transcript) hs → CarriesOutLines script (record_of trace) all
lines_done script r hs trace all is record_is out same told =
    let P : List (List Receipt) → Type 0 = CarriesOutLines script (recorded r) in
    subst (λ x. CarriesOutLines script x all) (sym same) (subst P (sym (told ∙ transcripts_seen hs)) (all_lines script r (map seen hs) is record_is out))

pub is_yes : (script : Scripted) (k : ℕ) (r : Recording) (hs : List Held) (trace : Record) (report : Report) → AreCarriedOut script k r (map seen hs) → record_of trace ≡ recorded r → report ≡ report_of (record_of trace) → report.verdict ≡ Yes
is_yes script k r hs trace report out same is =
    ap (λ (x : Report). x.verdict) is ∙ ap (λ x. (report_of x).verdict) same ∙ ap verdict_of (quiet_of script r (map seen hs) out.runs).accepted

-- ---- a vector whose elements were changed in place

pub front : {A : Type 0} (n : ℕ) (xs rest : List A) → n ≡ length xs → take n (xs ++ rest) ≡ xs
front {A = A} n xs rest same = ap (λ k. take k (xs ++ rest)) same ∙ whole xs
  where
    take-zero : (zs : List A) → take 0 zs ≡ []
    take-zero [] = refl
    take-zero (z ∷ zs) = refl

    whole : (ys : List A) → take (length ys) (ys ++ rest) ≡ ys
    whole [] = take-zero rest
    whole (y ∷ ys) = ap (λ zs. y ∷ zs) (whole ys)
