use Rattle.std.proofs.Common.{◌≡◌, ◌++◌, drop, string_bytes}
use Rattle.pg_show_json_answers.specs.SpannedLines.{lines_from}
use Rattle.pg_show_json_answers.proofs.spanned_lines.spanned_json_lines.Given as goal

abbrev pub invariant-loop-i : goal.invariant-loop-i
invariant-loop-i l =
    string_bytes l.text ++ lines_from l.selection l.run l.i (drop l.i l.events)
    ≡ lines_from l.selection l.run 0 l.events
