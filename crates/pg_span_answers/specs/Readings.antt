-- What reading a whole record with spans answers.
use Rattle.std.specs.Prelude.{◌≡◌, ℕ, Bool, true, false, List, Option, IfSome, Result, Ok, Err}
use Rattle.pg_codec.specs.Streams.{FailsWithDevice}
use Rattle.pg_report.specs.Changes.{Change}
use Rattle.pg_span_run.specs.Orders.{Spanned}
use Rattle.pg_span_run.specs.Reading.{spanned_reading}
use Rattle.pg_span_run.specs.Spelling.{SpellsSpanned}
use Rattle.pg_span_answers.specs.declared.reading.Unread.{Unread}
use Rattle.pg_span_answers.specs.declared.reading.Unread.TheVariants.{Refused, Device, Memory}

abbrev pub is_device : Unread → Bool
is_device (Refused e) = false
is_device Device = true
is_device Memory = false

-- where the bytes are known: they spell what was read, or this is their first refusal
abbrev pub ReadsRun : Option (List ℕ) → Result Spanned Unread → Type 0
ReadsRun bytes (Ok s) = IfSome bytes (λ b. SpellsSpanned b s)
ReadsRun bytes (Err (Refused e)) = IfSome bytes (λ b. spanned_reading b ≡ Err e)
ReadsRun bytes (Err Device) = Unit {0}
ReadsRun bytes (Err Memory) = Unit {0}

-- the device failed in a call that reads so, and in no other
abbrev pub DeviceTold : Change → Result Spanned Unread → Type 0
DeviceTold c read = FailsWithDevice is_device c.old.failures c.new.failures read
