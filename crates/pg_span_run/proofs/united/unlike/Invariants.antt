use Rattle.std.proofs.Common.{◌<◌, ℕ, get_or}
use Rattle.pg_span_run.specs.Logs.{Logged}
use Rattle.pg_span_run.specs.Parts.{IsLike}
use Rattle.pg_span_run.proofs.united.unlike.Given as goal

abbrev pub invariant-loop-i : goal.invariant-loop-i
invariant-loop-i l = (k : ℕ) (d : Logged) → k < l.i → IsLike l.header (get_or l.logs k d)
