use Rattle.std.proofs.Common.{◌≡◌, ◌++◌, drop, string_bytes}
use Rattle.pg_explain.specs.Line.{numbers_text}
use Rattle.pg_answers.proofs.outcomes_text.push_numbers.Given as goal

abbrev pub invariant-loop-number : goal.invariant-loop-number
invariant-loop-number l =
    string_bytes l.text ++ numbers_text (drop l.number-index l.numbers)
    ≡ string_bytes l.fn.text ++ numbers_text l.numbers
