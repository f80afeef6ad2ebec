use Rattle.std.proofs.Common.{◌≡◌, ◌++◌, drop, string_bytes}
use Rattle.pg_answers.specs.OutcomeTexts.{words_text}
use Rattle.pg_answers.proofs.giving_text.push_words.Given as goal

abbrev pub invariant-loop-word : goal.invariant-loop-word
invariant-loop-word l =
    string_bytes l.text ++ words_text (drop l.word-index l.words)
    ≡ string_bytes l.fn.text ++ words_text l.words
