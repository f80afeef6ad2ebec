-- What calls that read answer, against the reading functions on lists.
use Rattle.std.specs.Prelude.{◌≡◌, Result, Ok, Err}
use Rattle.pg_span_run.specs.declared.log_error.LogRefusal.{LogRefusal}
use Rattle.pg_span_run.specs.declared.log_error.LogError.{LogError}
use Rattle.pg_span_run.specs.declared.log_error.LogError.TheVariants.{Refused, Memory}

-- a function over a slice, seen by view, answers what reading gives
abbrev pub Gives : {X A E : Type 0} → (X → A) → Result X E → Result A E → Type 0
Gives view (Ok x) part = part ≡ Ok (view x)
Gives view (Err e) part = part ≡ Err e

-- it does, or memory was refused
abbrev pub Answers : {X A : Type 0} → (X → A) → Result X LogError → Result A LogRefusal → Type 0
Answers view (Ok x) part = part ≡ Ok (view x)
Answers view (Err (Refused e)) part = part ≡ Err e
Answers view (Err Memory) part = Unit {0}
