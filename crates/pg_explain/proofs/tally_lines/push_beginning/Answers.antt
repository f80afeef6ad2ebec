use Rattle.std.proofs.Common.{◌≡◌, ℕ, suc, ◌+◌, ◌-◌, ◌++◌, true, false, List, length, drop, get_or, rules, ap, sym, ◌∙◌, string_bytes, arith, length-drop, refl}
use Rattle.std.specs.Prelude.{nat_le, string_len}
use Rattle.std.proofs.lemmas.Result.{on_ok_weaker}
use Rattle.pg_explain.specs.Tallies.{item_text, more_text, beginning_text}
use Rattle.pg_explain.proofs.Lines.{first_fits, first_fails, call_written}
use Rattle.pg_explain.proofs.Loops.{next_written, last_written, all_written}
use Rattle.pg_explain.proofs.tally_lines.push_beginning.Goals as goal

pub loop-i-preserved : goal.loop-i-preserved
loop-i-preserved c =
    let numbers : List ℕ = c.args.numbers.now in
    let style = c.args.style in
    let i = c.loop-i.i in
    let left = c.loop-i.left in
    let n : ℕ = get_or numbers i 0 in
    let rest : List ℕ = drop (i + 1) numbers in
    let text = string_bytes c.loop-i.line in
    let bytes : string_len c.in_ok-item.item ≡ length (string_bytes c.in_ok-item.item) = search rules in
    let item_bytes : string_len c.in_ok-item.item ≡ length (item_text style n) = bytes ∙ ap length c.in_ok-item.ensures in
    let item : c.len.result ≡ length (item_text style n) = c.len.ensures ∙ item_bytes in
    let count : length numbers - i - 1 ≡ length rest = omega (arith, length-drop (i + 1) numbers) in
    let more_bytes : string_len c.in_ok-more.more ≡ length (string_bytes c.in_ok-more.more) = search rules in
    let more : c.len-in-loop-i.result ≡ length (more_text (length rest)) = c.len-in-loop-i.ensures ∙ more_bytes ∙ ap length c.in_ok-more.ensures ∙ ap (λ k. length (more_text k)) count in
    let fit : nat_le (length (item_text style n) + length (more_text (length rest))) left ≡ true =
    ap (λ k. nat_le (k + length (more_text (length rest))) left) (sym item) ∙ ap (λ k. nat_le (c.len.result + k) left) (sym more) ∙ sym c.if-not-do_fit.ensures in
    rw (c.len-left.ensures, item_bytes)
    (next_written (beginning_text left style) (beginning_text (left - length (item_text style n)) style) (item_text style n) numbers i 0 text (string_bytes c.push_str-in-loop-i.new.self) _ c.loop-i-test.true
    (first_fits style n left rest fit) (c.in_ok-push_str.ensures.bytes ∙ ap (λ t. text ++ t) (c.as_str-in-loop-i.ensures.value ∙ c.in_ok-item.ensures)) c.loop-i.invariant)

pub returns : goal.returns
returns c = all_written (beginning_text c.loop-i.left c.args.style) c.args.numbers.now c.loop-i.i (string_bytes c.loop-i.line) _ c.loop-i-test.false refl c.loop-i.invariant

pub returns-then-not-do_fit : goal.returns-then-not-do_fit
returns-then-not-do_fit c =
    let numbers : List ℕ = c.args.numbers.now in
    let style = c.args.style in
    let i = c.loop-i.i in
    let left = c.loop-i.left in
    let n : ℕ = get_or numbers i 0 in
    let rest : List ℕ = drop (i + 1) numbers in
    let text = string_bytes c.loop-i.line in
    let new = string_bytes c.push_str.new.self in
    let told = more_text (suc (length rest)) in
    let item_bytes : string_len c.in_ok-item.item ≡ length (string_bytes c.in_ok-item.item) = search rules in
    let item : c.len.result ≡ length (item_text style n) = c.len.ensures ∙ item_bytes ∙ ap length c.in_ok-item.ensures in
    let count : length numbers - i ≡ suc (length rest) = omega (arith, length-drop (i + 1) numbers, c.loop-i-test.true) in
    let after : length numbers - i - 1 ≡ length rest = omega (arith, count) in
    let more_bytes : string_len c.in_ok-more.more ≡ length (string_bytes c.in_ok-more.more) = search rules in
    let more : c.len-in-loop-i.result ≡ length (more_text (length rest)) = c.len-in-loop-i.ensures ∙ more_bytes ∙ ap length c.in_ok-more.ensures ∙ ap (λ k. length (more_text k)) after in
    let fit : nat_le (length (item_text style n) + length (more_text (length rest))) left ≡ false =
    ap (λ k. nat_le (k + length (more_text (length rest))) left) (sym item) ∙ ap (λ k. nat_le (c.len.result + k) left) (sym more) ∙ sym c.if-not-do_fit.ensures in
    on_ok_weaker c.push_str.result (λ (wrote : new ≡ text ++ c.as_str.result.now). last_written (beginning_text left style) told numbers i 0 text new _ c.loop-i-test.true (first_fails style n left rest fit)
    (wrote ∙ ap (λ t. text ++ t) (c.as_str.ensures.value ∙ c.in_ok-rest.ensures ∙ ap more_text count)) c.loop-i.invariant)
    (call_written c.push_str.result new text c.as_str.result.now c.push_str.ensures.bytes)
