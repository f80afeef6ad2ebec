use Rattle.std.proofs.Common.{◌≡◌, ◌++◌, drop, string_bytes}
use Rattle.pg_answers.specs.AnswerTexts.{causes_text}
use Rattle.pg_answers.proofs.text.push_causes.Given as goal

abbrev pub invariant-loop-explanation : goal.invariant-loop-explanation
invariant-loop-explanation l =
    string_bytes l.text ++ causes_text l.events (drop l.explanation-index l.explanations)
    ≡ string_bytes l.fn.text ++ causes_text l.events l.explanations
