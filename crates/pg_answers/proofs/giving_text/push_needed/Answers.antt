use Rattle.std.proofs.Common.{◌≡◌, ◌++◌, ℕ, List, ap, ◌∙◌, append_assoc, codes, string_bytes}
use Rattle.std.proofs.lemmas.Result.{on_ok_weaker}
use Rattle.pg_answers.specs.OutcomeTexts.{words_text, dirty_text}
use Rattle.pg_answers.proofs.giving_text.push_needed.Goals as goal

three_written : (text a b c one two three : List ℕ) → one ≡ text ++ a → two ≡ one ++ b → three ≡ two ++ c → three ≡ text ++ (a ++ (b ++ c))
three_written text a b c one two three first second third =
    third ∙ ap (λ t. t ++ c) (second ∙ ap (λ t. t ++ b) first ∙ append_assoc text a b)
    ∙ append_assoc text (a ++ b) c ∙ ap (λ t. text ++ t) (append_assoc a b c)

pub returns : goal.returns
returns c = on_ok_weaker c.push_dirty.result
    (three_written (string_bytes c.args.text.now) (codes "  needs: accessed in") (words_text c.args.accessed.now) (dirty_text c.args.dirty)
    (string_bytes c.push_str.new.self) (string_bytes c.push_words.new.text) (string_bytes c.push_dirty.new.text)
    c.in_ok-push_str.ensures.bytes c.in_ok-push_words.ensures)
    c.push_dirty.ensures
