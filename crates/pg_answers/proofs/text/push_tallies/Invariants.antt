use Rattle.std.proofs.Common.{◌≡◌, ◌++◌, drop, string_bytes}
use Rattle.pg_answers.specs.AnswerTexts.{tally_lines}
use Rattle.pg_answers.proofs.text.push_tallies.Given as goal

abbrev pub invariant-loop-tally : goal.invariant-loop-tally
invariant-loop-tally l =
    string_bytes l.text ++ tally_lines (drop l.tally-index l.tallies)
    ≡ string_bytes l.fn.text ++ tally_lines l.tallies
