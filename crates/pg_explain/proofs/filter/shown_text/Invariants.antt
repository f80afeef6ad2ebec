use Rattle.std.proofs.Common.{◌≡◌, ◌++◌, drop, string_bytes}
use Rattle.pg_explain.specs.Filters.{is_shown, lines_where, shown_text}
use Rattle.pg_explain.proofs.filter.shown_text.Given as goal

abbrev pub invariant-loop-i : goal.invariant-loop-i
invariant-loop-i l =
    string_bytes l.text ++ lines_where (is_shown l.selection l.events) l.i (drop l.i l.events)
    ≡ shown_text l.selection l.events
