use Rattle.std.proofs.Common.{◌≡◌, take, string_bytes}
use Rattle.pg_span_answers.specs.Texts.{order_text}
use Rattle.pg_span_answers.proofs.texts.order_text.Given as goal

abbrev pub invariant-loop-number : goal.invariant-loop-number
invariant-loop-number l = string_bytes l.text ≡ order_text (take l.number-index l.order)
