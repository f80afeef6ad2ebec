use Rattle.std.proofs.Common.{◌∷◌, [], ◌++◌, ap, sym, ◌∙◌}
use Rattle.pg_span_verdict.proofs.Numbers.{numbers_more}
use Rattle.pg_span_verdict.proofs.verdict.numbers_below.Goals as goal

pub loop-number-preserved : goal.loop-number-preserved
loop-number-preserved c = c.in_ok-push.ensures.items ∙ (ap (λ xs. xs ++ c.loop-number.number ∷ []) c.loop-number.invariant ∙ sym (numbers_more c.loop-number.number))
