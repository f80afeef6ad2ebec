use Rattle.std.proofs.Common.{◌≡◌, ◌++◌, drop, string_bytes}
use Rattle.pg_answers.specs.AllowedTexts.{some_lines}
use Rattle.pg_answers.proofs.allowed_text.push_some.Given as goal

abbrev pub invariant-loop-allowed : goal.invariant-loop-allowed
invariant-loop-allowed l =
    string_bytes l.text ++ some_lines (drop l.allowed-index l.found)
    ≡ string_bytes l.fn.text ++ some_lines l.found
