-- Events of whole segments, and more of them.
use Rattle.std.proofs.Common.{◌≡◌, ℕ, ◌+◌, ◌-◌, ◌%◌, ◌^◌, ◌<◌, List, [], ◌∷◌, ◌++◌, take, drop, length, inr, sym, ◌∙◌, ap, subst, arith, length-append}
use Rattle.std.proofs.Math.Nat.{mod-add-mod, add-mod_right}
use Rattle.std.specs.List.{AllByRecursion}
use Rattle.std.proofs.lemmas.List.{take_all, length-drop}
use Rattle.pg_check.specs.Kept.{AreWellFormed}
use Rattle.pg_event.specs.declared.event.Event.{Event}
use Rattle.pg_event.specs.Heads.{Head}
use Rattle.pg_event.specs.Spelling.{Recorded, IsRecord}
use Rattle.pg_report.specs.declared.report.Report.{Report}
use Rattle.pg_report.specs.declared.team.Team.{Team}
use Rattle.pg_report.specs.Teams.{IsTeam, MayGoOn}
use Rattle.pg_report.specs.Judging.{IsReportOf}
use Rattle.pg_report.specs.Text.{report_of}
use Rattle.pg_runner.specs.Live.{IsBegun, IsWatched}
use Rattle.pg_runner.proofs.Beginnings.{begins_with}

mod_sum : (a b s : ℕ) → a % s ≡ 0 → b % s ≡ 0 → (a + b) % s ≡ 0
mod_sum a b s first more = sym (mod-add-mod a s b) ∙ ap (λ n. (n + b) % s) first ∙ ap (λ n. n % s) (nothing b) ∙ more
  where
    nothing : (n : ℕ) → 0 + n ≡ n
    nothing n = omega arith

pub whole_more : (xs more : List Event) (size : ℕ) → length xs % size ≡ 0 → length more % size ≡ 0 → length (xs ++ more) % size ≡ 0
whole_more xs more size first next = ap (λ n. n % size) (length-append xs more) ∙ mod_sum (length xs) (length more) size first next

pub full_more : (xs segment : List Event) (size : ℕ) → length xs % size ≡ 0 → length segment ≡ size → length (xs ++ segment) % size ≡ 0
full_more xs segment size first full = ap (λ n. n % size) (length-append xs segment ∙ ap (λ n. length xs + n) full) ∙ add-mod_right (length xs) size ∙ first

pub watched_more : (old new : Team) (events more : List Event) → IsWatched old events → IsTeam new old.judged.head (events ++ more) → length more % old.judged.head.segment ≡ 0 → IsWatched new (events ++ more)
watched_more old new events more was team whole = record {
  team = subst (λ (h : Head). IsTeam new h (events ++ more)) (sym team.judged.settings) team;
  whole = subst (λ (h : Head). length (events ++ more) % h.segment ≡ 0) (sym team.judged.settings) (whole_more events more old.judged.head.segment was.whole whole);
}

-- whole segments may come next, behind whole segments
pub more_follows : (t : Team) (events more : List Event) → IsWatched t events → AreWellFormed t.judged.head more → length events + length more < 2 ^ 32 → MayGoOn t more
more_follows t events more was well limit = record {
  before = events;
  team = was.team;
  well = well;
  limit = limit;
  whole = inr (ap (λ n. n % t.judged.head.segment) was.team.judged.count ∙ was.whole);
}

-- ---- the rest of a record

abbrev pub rest_of : List Event → ℕ → List Event
rest_of all n = take (length all - n) (drop n all)

rest_is : (all first : List Event) (n : ℕ) → n ≡ length first → rest_of all n ≡ drop (length first) all
rest_is all first n same = ap (rest_of all) same ∙ take_all (length all - length first) (drop (length first) all) (omega (arith, length-drop (length first) all))

all_rest : {X : Type 0} (P : X → Type 0) (xs ys : List X) → AllByRecursion P (xs ++ ys) → AllByRecursion P ys
all_rest P [] ys all = all
all_rest P (x ∷ xs) ys all = all_rest P xs ys all.1

-- so many events were judged
judged_count : (t : Team) (all : List Event) (n : ℕ) (begun : IsBegun t all) → n ≡ t.judged.count → n ≡ length begun.first
judged_count t all n begun same = same ∙ begun.watched.team.judged.count

pub rest_follows : (t : Team) (all : List Event) (n : ℕ) → IsBegun t all → n ≡ t.judged.count → IsRecord (record { head = t.judged.head; events = all }) → MayGoOn t (rest_of all n)
rest_follows t all n begun same is =
    let first : List Event = begun.first in
    let begins : all ≡ first ++ drop (length first) all = begins_with first all begun.begins in
    let rest : List Event = drop (length first) all in
    let well : AreWellFormed t.judged.head rest = all_rest _ first rest (subst (AreWellFormed t.judged.head) begins is.well) in
    let count : length all ≡ length first + length rest = ap length begins ∙ length-append first rest in
    let limit : length first + length rest < 2 ^ 32 = omega (arith, count, is.count) in
    subst (MayGoOn t) (sym (rest_is all first n (judged_count t all n begun same))) (more_follows t first rest begun.watched well limit)

pub rest_reported : (t new : Team) (all : List Event) (n : ℕ) (report : Report) (begun : IsBegun t all) → n ≡ t.judged.count → IsTeam new t.judged.head (begun.first ++ rest_of all n) → IsReportOf new.judged report
    → report ≡ report_of (record { head = t.judged.head; events = all })
rest_reported t new all n report begun same team told =
    let first : List Event = begun.first in
    let begins : all ≡ first ++ drop (length first) all = begins_with first all begun.begins in
    let whole : first ++ rest_of all n ≡ all = ap (λ es. first ++ es) (rest_is all first n (judged_count t all n begun same)) ∙ sym begins in
    told t.judged.head (first ++ rest_of all n) team.judged ∙ ap (λ (es : List Event). let r : Recorded = record { head = t.judged.head; events = es } in report_of r) whole
