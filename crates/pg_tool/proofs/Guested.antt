-- What runs of guest scripts come to, from what their parts do.
use Rattle.std.proofs.Common.{◌≡◌, ℕ, Bool, true, false, List, Result, Ok, Err, sym, subst, inr}
use Rattle.std.specs.Prelude.{IfOk, IfErr}
use Rattle.std.specs.Io.KnownBytes.{IsAtEnd}
use Rattle.pg_event.specs.Spelling.{Recorded}
use Rattle.pg_world.specs.declared.receipt.Receipt.{Receipt}
use Rattle.pg_guest.specs.Reading.{Scripted, reading}
use Rattle.pg_report.specs.declared.report.Verdict.TheVariants.{Yes}
use Rattle.pg_report.specs.Changes.{Change, Adds, AddsSome, AddsNothing, Works}
use Rattle.pg_report.specs.Text.{report_of}
use Rattle.pg_runner.specs.declared.error.RunError.{RunError}
use Rattle.pg_runner.specs.declared.error.RunError.TheVariants as runs
use Rattle.pg_runner.specs.declared.result.RunResult.{RunResult}
use Rattle.pg_runner.specs.Lines.{IsSingleRun}
use Rattle.pg_runner.specs.Guests.{IsGuestRun as IsThreadsRun}
use Rattle.pg_runner.specs.Live.{IsWant}
use Rattle.pg_tool.specs.declared.guest_error.GuestError.{GuestError}
use Rattle.pg_tool.specs.declared.guest_error.GuestError.TheVariants.{TooLong, Script, Run, Device}
use Rattle.pg_tool.specs.Guests.{Gives, HasRunOf, IsGuestRun, IsRunBy, IsResultBy, StopsBy, TakesScript, WritesAnswer, output_text}

-- ---- by one thread or by many

pub by_one : (single : Bool) (script : Scripted) (result : Result RunResult RunError) → single ≡ true → IfOk result (λ run. IsSingleRun script run) → IfOk result (λ run. IsResultBy single script run)
by_one single script (Ok run) is one = subst (λ b. IsResultBy b script run) (sym is) (record { run = one.run; report = one.report; yes = one.yes })
by_one single script (Err e) is one = tt

pub stopped_by_one : (single : Bool) (result : Result RunResult RunError) → IfErr result (λ e. e ≡ runs.Memory) → IfErr result (StopsBy single)
stopped_by_one single (Ok run) stops = tt
stopped_by_one single (Err e) stops = subst (StopsBy single) (sym stops) tt

pub by_many : (single : Bool) (script : Scripted) (result : Result RunResult RunError) → single ≡ false → IfOk result (λ run. IsThreadsRun script run) → IfOk result (λ run. IsResultBy single script run)
by_many single script (Ok run) is many = subst (λ b. IsResultBy b script run) (sym is) (record { run = many.run; report = many.report; yes = many.yes })
by_many single script (Err e) is many = tt

many_stop : (single : Bool) (e : RunError) → single ≡ false → IsWant e → StopsBy single e
many_stop single runs.Memory is stops = tt
many_stop single runs.Thread is stops = is
many_stop single runs.Checkers is stops = absurd stops

pub stopped_by_many : (single : Bool) (result : Result RunResult RunError) → single ≡ false → IfErr result IsWant → IfErr result (StopsBy single)
stopped_by_many single (Ok run) is stops = tt
stopped_by_many single (Err e) is stops = many_stop single e is stops

-- ---- what the program says

has_run : (single : Bool) (bytes : List ℕ) (P : Recorded → Type 0) (script : Scripted) (r : Recorded) (receipts : List (List Receipt)) → reading bytes ≡ Ok script → IsRunBy single script r receipts → (report_of r).verdict ≡ Yes → P r →
    HasRunOf single bytes P
has_run single bytes P script r receipts said lines accepted holds = record {
  script = script;
  said = said;
  r = r;
  receipts = receipts;
  runs = lines;
  yes = accepted;
  holds = holds;
}

answered : (single as_bytes : Bool) (input output : Change) (script : Scripted) (r : Recorded) (receipts : List (List Receipt)) (takes : TakesScript input (Ok script)) → IsRunBy single script r receipts → (report_of r).verdict ≡ Yes
    → (written : Result (Unit {0}) GuestError) → WritesAnswer output (output_text as_bytes r) written → Gives single as_bytes takes.bytes (IsAtEnd input.new.bytes) input output written
answered single as_bytes input output script r receipts takes lines accepted (Ok done) wrote =
    (takes.takes.0, has_run single takes.bytes (λ r. Adds output (output_text as_bytes r)) script r receipts takes.takes.1 lines accepted wrote.0, (takes.device, wrote.1))
answered single as_bytes input output script r receipts takes lines accepted (Err Device) wrote =
    inr ((takes.device, wrote.1), takes.takes.0, has_run single takes.bytes (λ r. AddsSome output (output_text as_bytes r)) script r receipts takes.takes.1 lines accepted wrote.0)
answered single as_bytes input output script r receipts takes lines accepted (Err (Run runs.Memory)) wrote = (wrote.1.0, (takes.device, wrote.1.1))
answered single as_bytes input output script r receipts takes lines accepted (Err (Run runs.Thread)) wrote = absurd (cc)
answered single as_bytes input output script r receipts takes lines accepted (Err (Run runs.Checkers)) wrote = absurd (cc)
answered single as_bytes input output script r receipts takes lines accepted (Err TooLong) wrote = absurd wrote
answered single as_bytes input output script r receipts takes lines accepted (Err (Script e)) wrote = absurd wrote

-- a run was had, and its answer was written, or was not
pub run_written : (single as_bytes : Bool) (input output : Change) (script : Scripted) (r : Recorded) (receipts : List (List Receipt)) → TakesScript input (Ok script) → IsRunBy single script r receipts → (report_of r).verdict ≡ Yes
    → (written : Result (Unit {0}) GuestError) → WritesAnswer output (output_text as_bytes r) written → IsGuestRun single as_bytes input output written
run_written single as_bytes input output script r receipts takes lines accepted written wrote = record {
  bytes = takes.bytes;
  taken = takes.taken;
  most = takes.most;
  gives = answered single as_bytes input output script r receipts takes lines accepted written wrote;
}

stopped : (single as_bytes : Bool) (input output : Change) (script : Scripted) (takes : TakesScript input (Ok script)) → AddsNothing output → Works output → (e : RunError) → StopsBy single e →
    Gives single as_bytes takes.bytes (IsAtEnd input.new.bytes) input output (Err (Run e))
stopped single as_bytes input output script takes nothing works runs.Memory stops = (nothing, (takes.device, works))
stopped single as_bytes input output script takes nothing works runs.Thread stops = (stops, nothing, (takes.device, works))
stopped single as_bytes input output script takes nothing works runs.Checkers stops = absurd stops

-- the run came to nothing
pub run_stops : (single as_bytes : Bool) (input output : Change) (script : Scripted) (e : RunError) → TakesScript input (Ok script) → AddsNothing output → Works output → StopsBy single e →
    IsGuestRun single as_bytes input output (Err (Run e))
run_stops single as_bytes input output script e takes nothing works stops = record {
  bytes = takes.bytes;
  taken = takes.taken;
  most = takes.most;
  gives = stopped single as_bytes input output script takes nothing works e stops;
}
