use Rattle.std.proofs.Common.{◌≡◌, ◌++◌, drop, string_bytes}
use Rattle.pg_explain.specs.Tallies.{beginning_text}
use Rattle.pg_explain.proofs.tally_lines.push_beginning.Given as goal

abbrev pub invariant-loop-i : goal.invariant-loop-i
invariant-loop-i l =
    string_bytes l.line ++ beginning_text l.left l.style (drop l.i l.numbers)
    ≡ string_bytes l.fn.line ++ beginning_text l.room l.style l.numbers
