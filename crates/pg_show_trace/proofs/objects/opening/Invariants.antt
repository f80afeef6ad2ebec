use Rattle.std.proofs.Common.{◌≡◌, ◌-◌, ◌++◌, string_bytes}
use Rattle.pg_show_trace.specs.Objects.{opening_text, threads_text}
use Rattle.pg_show_trace.proofs.objects.opening.Given as goal

abbrev pub invariant-loop-p : goal.invariant-loop-p
invariant-loop-p l =
    string_bytes l.text ++ threads_text l.p (l.processors - l.p) ≡ opening_text l.processors
