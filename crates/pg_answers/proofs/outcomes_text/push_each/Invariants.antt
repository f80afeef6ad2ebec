use Rattle.std.proofs.Common.{◌≡◌, ◌++◌, drop, string_bytes}
use Rattle.pg_answers.specs.OutcomeTexts.{told_texts}
use Rattle.pg_answers.proofs.outcomes_text.push_each.Given as goal

abbrev pub invariant-loop-outcome : goal.invariant-loop-outcome
invariant-loop-outcome l =
    string_bytes l.text ++ told_texts (drop l.outcome-index l.told)
    ≡ string_bytes l.fn.text ++ told_texts l.told
