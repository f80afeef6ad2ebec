use Rattle.std.proofs.Common.{◌≡◌, ◌++◌, drop, string_bytes}
use Rattle.pg_span_text.specs.Text.{may_lines}
use Rattle.pg_span_text.proofs.seen_lines.push_may_lines.Given as goal

abbrev pub invariant-loop-i : goal.invariant-loop-i
invariant-loop-i l =
    string_bytes l.text ++ may_lines l.cfg l.i (drop l.i l.seen)
    ≡ string_bytes l.fn.text ++ may_lines l.cfg 0 l.seen
