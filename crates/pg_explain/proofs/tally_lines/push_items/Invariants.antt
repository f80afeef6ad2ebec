use Rattle.std.proofs.Common.{◌≡◌, ◌++◌, drop, string_bytes}
use Rattle.pg_explain.specs.Tallies.{items_text}
use Rattle.pg_explain.proofs.tally_lines.push_items.Given as goal

abbrev pub invariant-loop-number : goal.invariant-loop-number
invariant-loop-number l =
    string_bytes l.line ++ items_text l.style (drop l.number-index l.numbers)
    ≡ string_bytes l.fn.line ++ items_text l.style l.numbers
