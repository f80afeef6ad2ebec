use Rattle.std.proofs.Common.{◌≡◌, ◌+◌, length, drop}
use Rattle.pg_explain.specs.Tallies.{items_text}
use Rattle.pg_explain.proofs.tally_lines.all_fit.Given as goal

abbrev pub invariant-loop-number : goal.invariant-loop-number
invariant-loop-number l =
    length (items_text l.style l.numbers) + l.left
    ≡ l.room + length (items_text l.style (drop l.number-index l.numbers))
