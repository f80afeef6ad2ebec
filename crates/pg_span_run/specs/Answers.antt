-- What a call that reads answers, against the reading function on lists.
use Rattle.std.specs.Prelude.{◌≡◌, Result, Ok, Err}
use Rattle.pg_span_run.specs.declared.refusal.SpannedRefusal.{SpannedRefusal}
use Rattle.pg_span_run.specs.declared.error.SpannedError.{SpannedError}
use Rattle.pg_span_run.specs.declared.error.SpannedError.TheVariants.{Refused, Memory}

-- a refusal is what reading gives; running out of memory says nothing of it
abbrev pub Fails : {A : Type 0} → SpannedError → Result A SpannedRefusal → Type 0
Fails (Refused e) reading = reading ≡ Err e
Fails Memory reading = Unit {0}

-- a call answers what reading gives, seen by view
abbrev pub Answers : {X A : Type 0} → (X → A) → Result X SpannedError → Result A SpannedRefusal →
    Type 0
Answers view (Ok x) reading = reading ≡ Ok (view x)
Answers view (Err e) reading = Fails e reading
