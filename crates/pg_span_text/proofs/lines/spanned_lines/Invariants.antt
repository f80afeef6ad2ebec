use Rattle.std.proofs.Common.{◌≡◌, ◌++◌, drop, string_bytes}
use Rattle.pg_span_text.specs.Lines.{lines_from}
use Rattle.pg_span_text.proofs.lines.spanned_lines.Given as goal

abbrev pub invariant-loop-i : goal.invariant-loop-i
invariant-loop-i l =
    string_bytes l.text ++ lines_from l.selection l.run l.i (drop l.i l.events)
    ≡ lines_from l.selection l.run 0 l.events
