use Rattle.std.proofs.Common.{◌≡◌, ◌++◌, drop, length, string_bytes}
use Rattle.pg_show_trace.specs.Objects.{opening_text}
use Rattle.pg_show_trace.specs.Spans.{spanned_items}
use Rattle.pg_show_trace.specs.Texts.{marking}
use Rattle.pg_show_trace.proofs.spans.document.Given as goal

abbrev pub invariant-loop-i : goal.invariant-loop-i
invariant-loop-i l =
    string_bytes l.text ++ spanned_items l.selection (marking l.mark) l.run l.i (drop l.i l.events)
    ≡ opening_text (length l.run.head.processors) ++ spanned_items l.selection (marking l.mark) l.run 0 l.events
