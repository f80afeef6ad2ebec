use Rattle.std.proofs.Common.{◌≡◌, ◌++◌, take, string_bytes}
use Rattle.std.specs.List.{flat_map}
use Rattle.pg_explain.specs.Denied.{now_entry_text}
use Rattle.pg_explain.proofs.denial_lines.push_now_walk.Given as goal

abbrev pub invariant-loop-entry : goal.invariant-loop-entry
invariant-loop-entry l =
    string_bytes l.text ≡ string_bytes l.fn.text ++ flat_map now_entry_text (take l.entry-index l.entry-items)
