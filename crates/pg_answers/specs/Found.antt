-- What answering a question of the record on a source promises, before anything is written.
use Rattle.std.specs.Prelude.{◌≡◌, ◌≢◌, ℕ, List, Option, Result, Ok, Err, IfSome}
use Rattle.pg_event.specs.declared.version.Version.TheVariants.{Two}
use Rattle.pg_event.specs.Spelling.{Recorded}
use Rattle.pg_report.specs.declared.error.AuditError.{AuditError}
use Rattle.pg_report.specs.declared.error.AuditError.TheVariants.{Refused, Device, Memory}
use Rattle.pg_report.specs.declared.error.AuditError.TheVariants.{Thread, Checkers}
use Rattle.pg_report.specs.Changes.{Change}
use Rattle.pg_report.specs.Intake.{ReadsRecord, TellsDevice}

-- why a record that was read may have no answer: memory ran out, or a thread failed, of which one
-- checker wants none
abbrev pub MayFail : ℕ → AuditError → Type 0
MayFail checkers Memory = Unit {0}
MayFail checkers Thread = checkers ≢ 1
MayFail checkers (Refused e) = ⊥
MayFail checkers Device = ⊥
MayFail checkers Checkers = ⊥

-- so many checkers can be had, and one wants no thread
abbrev pub IsAbleBy : ℕ → {A : Type 0} → Result A AuditError → Type 0
IsAbleBy checkers answer = (answer ≢ Err Checkers) × (checkers ≡ 1 → answer ≢ Err Thread)

module _ {A : Type 0} (Is : Recorded → A → Type 0) (checkers : ℕ) where
  -- The answer is one of the record that was left, all of it. A refusal is the first of its bytes;
  -- a thread may be refused where there are several checkers.
  abbrev pub Finds : Option (List ℕ) → Result A AuditError → Type 0
  Finds left (Ok x) =
      (r : Recorded) × Is r x × IfSome left (λ bytes. ReadsRecord Two bytes (Ok r))
  Finds left (Err (Refused e)) = IfSome left (λ bytes. ReadsRecord Two bytes (Err (Refused e)))
  Finds left (Err Device) = Unit {0}
  Finds left (Err Memory) = Unit {0}
  Finds left (Err Thread) = checkers ≢ 1
  Finds left (Err Checkers) = ⊥

  pub record IsFound (input : Change) (result : Result A AuditError) : Type 0 where
    pub finds : Finds input.old.bytes result
    pub device : TellsDevice input result
