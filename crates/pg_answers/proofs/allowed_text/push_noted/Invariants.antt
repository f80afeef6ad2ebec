use Rattle.std.proofs.Common.{◌≡◌, ◌++◌, drop, string_bytes}
use Rattle.pg_answers.specs.AllowedTexts.{noted_text}
use Rattle.pg_answers.proofs.allowed_text.push_noted.Given as goal

abbrev pub invariant-loop-allowed : goal.invariant-loop-allowed
invariant-loop-allowed l =
    string_bytes l.text ++ noted_text (drop l.allowed-index l.found)
    ≡ string_bytes l.fn.text ++ noted_text l.found
