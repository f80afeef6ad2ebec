use Rattle.std.proofs.Common.{◌++◌, refl, ap, ◌∙◌, get_or, string_bytes}
use Rattle.pg_explain.specs.Tallies.{item_text, items_text}
use Rattle.pg_explain.proofs.Loops.{next_written, all_written}
use Rattle.pg_explain.proofs.tally_lines.push_items.Goals as goal

pub loop-number-preserved : goal.loop-number-preserved
loop-number-preserved c =
    let style = c.args.style in
    let numbers = c.args.numbers.now in
    let i = c.loop-number.number-index in
    let text = string_bytes c.loop-number.line in
    next_written (items_text style) (items_text style) (item_text style (get_or numbers i 0)) numbers i 0 text (string_bytes c.push_str.new.self) _ c.loop-number-test.true refl
    (c.in_ok-push_str.ensures.bytes ∙ ap (λ t. text ++ t) (c.as_str.ensures.value ∙ c.in_ok-item.ensures)) c.loop-number.invariant

pub returns : goal.returns
returns c = all_written (items_text c.args.style) c.args.numbers.now c.loop-number.number-index (string_bytes c.loop-number.line) _ c.loop-number-test.false refl c.loop-number.invariant
