use Rattle.std.proofs.Common.{◌≡◌, ◌++◌, drop, string_bytes}
use Rattle.pg_answers.specs.OutcomeTexts.{given_lines}
use Rattle.pg_answers.proofs.giving_text.push_walk.Given as goal

abbrev pub invariant-loop-entry : goal.invariant-loop-entry
invariant-loop-entry l =
    string_bytes l.text ++ given_lines (drop l.entry-index l.walk)
    ≡ string_bytes l.fn.text ++ given_lines l.walk
