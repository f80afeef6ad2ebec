-- The numbers of refusals.
use Rattle.std.specs.Prelude.{ℕ}
use Rattle.pg_codec.specs.Errors.{refusal_number}
use Rattle.pg_span_run.specs.declared.refusal.SpannedRefusal.{SpannedRefusal}
use Rattle.pg_span_run.specs.declared.refusal.SpannedRefusal.TheVariants.{Plain, Back}
use Rattle.pg_span_run.specs.declared.error.SpannedError.{SpannedError}
use Rattle.pg_span_run.specs.declared.error.SpannedError.TheVariants.{Refused, Memory}

abbrev pub spanned_refusal_number : SpannedRefusal → ℕ
spanned_refusal_number (Plain refusal) = refusal_number refusal
spanned_refusal_number (Back event) = 7

abbrev pub spanned_error_number : SpannedError → ℕ
spanned_error_number (Refused refusal) = spanned_refusal_number refusal
spanned_error_number Memory = 12
