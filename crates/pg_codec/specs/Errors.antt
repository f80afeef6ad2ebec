-- The numbers of refusals.
use Rattle.std.specs.Prelude.{ℕ}
use Rattle.pg_event.specs.declared.refusal.Refusal.{Refusal}
use Rattle.pg_event.specs.declared.refusal.Refusal.TheVariants.{Magic, Version, HeaderField}
use Rattle.pg_event.specs.declared.refusal.Refusal.TheVariants.{SegmentNumber, SegmentCount, Tag}
use Rattle.pg_event.specs.declared.refusal.Refusal.TheVariants.{Malformed, Truncated, Total}
use Rattle.pg_event.specs.declared.refusal.Refusal.TheVariants.{Trailing}
use Rattle.pg_codec.specs.declared.error.ReadError.{ReadError}
use Rattle.pg_codec.specs.declared.error.ReadError.TheVariants as errors

abbrev pub refusal_number : Refusal → ℕ
refusal_number Magic = 1
refusal_number Version = 2
refusal_number HeaderField = 3
refusal_number SegmentNumber = 4
refusal_number SegmentCount = 5
refusal_number Tag = 6
refusal_number (Malformed event rule) = 7
refusal_number Truncated = 8
refusal_number Total = 9
refusal_number Trailing = 10

abbrev pub error_number : ReadError → ℕ
error_number (errors.Refused refusal) = refusal_number refusal
error_number errors.Device = 11
error_number errors.Memory = 12
error_number errors.Failed = 13
