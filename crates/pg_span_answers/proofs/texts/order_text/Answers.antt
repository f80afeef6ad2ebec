use Rattle.std.proofs.Common.{◌++◌, ℕ, List, codes, decimal, get_or, ap, sym, ◌∙◌, arith}
use Rattle.std.proofs.lemmas.List.{take_all}
use Rattle.pg_span_answers.specs.Texts.{order_text}
use Rattle.pg_span_answers.proofs.Telling.{order_more}
use Rattle.pg_span_answers.proofs.texts.order_text.Goals as goal

pub loop-number-preserved : goal.loop-number-preserved
loop-number-preserved c =
    let k : ℕ = c.loop-number.number-index in
    let order : List ℕ = c.args.order.now in
    c.in_ok-push_number.ensures ∙ (ap (λ xs. xs ++ (decimal (get_or order k 0) ++ codes "\n")) c.loop-number.invariant ∙ sym (order_more order k c.loop-number-test.true))

pub returns : goal.returns
returns c =
    let order : List ℕ = c.args.order.now in
    c.loop-number.invariant ∙ ap order_text (take_all c.loop-number.number-index order (omega (arith, c.loop-number-test.false)))
