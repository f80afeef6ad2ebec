use Rattle.std.proofs.Common.{◌≡◌, ◌<◌, ℕ, get_or}
use Rattle.pg_span_run.specs.Logs.{Logged}
use Rattle.pg_span_run.proofs.united.twice.Given as goal

abbrev pub invariant-loop-second : goal.invariant-loop-second
invariant-loop-second l = (j k : ℕ) (d : Logged) → j < k → k < l.second → (get_or l.logs j d).head.own ≡ (get_or l.logs k d).head.own → ⊥
