use Rattle.std.proofs.Common.{◌≡◌, ◌++◌, drop, string_bytes}
use Rattle.pg_span_text.specs.Text.{cannot_lines}
use Rattle.pg_span_text.proofs.seen_lines.push_cannot_lines.Given as goal

abbrev pub invariant-loop-i : goal.invariant-loop-i
invariant-loop-i l =
    string_bytes l.text ++ cannot_lines l.i (drop l.i l.seen)
    ≡ string_bytes l.fn.text ++ cannot_lines 0 l.seen
