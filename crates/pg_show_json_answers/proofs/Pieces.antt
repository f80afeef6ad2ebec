-- The object of a malformed event, in the pieces that are written.
use Rattle.std.proofs.Common.{◌≡◌, ℕ, List, ◌++◌, codes, decimal, append_assoc, ap, sym, ◌∙◌}
use Rattle.pg_show_json.specs.Tree.{json_line}
use Rattle.pg_show_json_answers.specs.Refusals.{malformed_json}
use Rattle.pg_show_json_answers.proofs.OnLiterals.{objects_on_literals}

joined : (a m b n c z : List ℕ) → (a ++ (m ++ (b ++ (n ++ c)))) ++ z ≡ (a ++ m) ++ ((b ++ n) ++ (c ++ z))
joined a m b n c z =
    append_assoc a (m ++ (b ++ (n ++ c))) z
    ∙ ap (λ t. a ++ t) (append_assoc m (b ++ (n ++ c)) z
    ∙ ap (λ t. m ++ t) (append_assoc b (n ++ c) z
    ∙ ap (λ t. b ++ t) (append_assoc n c z) ∙ sym (append_assoc b n (c ++ z))))
    ∙ sym (append_assoc a m ((b ++ n) ++ (c ++ z)))

abbrev pub event_piece : ℕ → List ℕ
event_piece event = codes "{\"event\":" ++ decimal event

abbrev pub rule_piece : ℕ → List ℕ
rule_piece rule = codes ",\"format\":1,\"number\":7,\"rule\":" ++ decimal rule

abbrev pub last_piece : List ℕ
last_piece = codes ",\"text\":\"malformed\"}\n"

pub malformed_line : (event rule : ℕ) → json_line (malformed_json event rule) ≡ event_piece event ++ (rule_piece rule ++ last_piece)
unfolding objects_on_literals
malformed_line event rule =
    joined (codes "{\"event\":") (decimal event) (codes ",\"format\":1,\"number\":7,\"rule\":") (decimal rule) (codes ",\"text\":\"malformed\"}") (codes "\n")
