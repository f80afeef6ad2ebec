-- The numbers of refusals.
use Rattle.std.specs.Prelude.{ℕ}
use Rattle.pg_codec.specs.Errors.{refusal_number}
use Rattle.pg_span_run.specs.declared.log_error.LogRefusal.TheVariants.{Field, Stamps, Processor}
use Rattle.pg_span_run.specs.declared.log_error.LogError.{LogError}
use Rattle.pg_span_run.specs.declared.log_error.LogError.TheVariants as logs
use Rattle.pg_span_run.specs.declared.log_error.MergeError.{MergeError}
use Rattle.pg_span_run.specs.declared.log_error.MergeError.TheVariants as merging

abbrev pub log_error_number : LogError → ℕ
log_error_number (logs.Refused (Field refusal)) = refusal_number refusal
log_error_number (logs.Refused (Stamps event)) = 16
log_error_number (logs.Refused (Processor event)) = 17
log_error_number logs.Memory = 12

abbrev pub merge_error_number : MergeError → ℕ
merge_error_number merging.Memory = 12
merge_error_number merging.NoLogs = 18
merge_error_number (merging.Differs log setting) = 19
merge_error_number (merging.Twice first second) = 20
merge_error_number (merging.Missing processor) = 21
merge_error_number merging.TooMany = 22
