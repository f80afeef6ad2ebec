use Rattle.std.proofs.Common.{◌≡◌, ◌<◌, ℕ, get_or}
use Rattle.pg_span_run.specs.Logs.{Logged}
use Rattle.pg_span_run.proofs.united.place_of.Given as goal

abbrev pub invariant-loop-i : goal.invariant-loop-i
invariant-loop-i l = (k : ℕ) (d : Logged) → k < l.i → (get_or l.logs k d).head.own ≡ l.processor → ⊥
