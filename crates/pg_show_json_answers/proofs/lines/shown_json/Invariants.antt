use Rattle.std.proofs.Common.{◌≡◌, ◌++◌, drop, string_bytes}
use Rattle.pg_explain.specs.Filters.{is_shown}
use Rattle.pg_show_json_answers.specs.Answers.{lines_where, shown_json}
use Rattle.pg_show_json_answers.proofs.lines.shown_json.Given as goal

abbrev pub invariant-loop-i : goal.invariant-loop-i
invariant-loop-i l =
    string_bytes l.text ++ lines_where (is_shown l.selection l.events) l.i (drop l.i l.events)
    ≡ shown_json l.selection l.events
