-- What is written of a run.
use Rattle.std.proofs.Common.{◌≡◌, ◌<◌, ◌+◌, ◌++◌, ℕ, List, [], ◌∷◌, length, take, get_or, codes, decimal, ap, ◌∙◌}
use Rattle.std.specs.List.{flat_map}
use Rattle.std.proofs.lemmas.Grind.{flat_map-append}
use Rattle.std.proofs.lemmas.List.{append-nil, take_more}
use Rattle.pg_span_answers.specs.Texts.{edge_line, order_text}
use Rattle.pg_span_refute.specs.declared.edge.Edge.{Edge}

pub order_more : (order : List ℕ) (k : ℕ) → k < length order → order_text (take (k + 1) order) ≡ order_text (take k order) ++ (decimal (get_or order k 0) ++ codes "\n")
order_more order k within =
    let n = get_or order k 0 in
    ap order_text (take_more order k 0 within)
    ∙ (flat_map-append (λ (m : ℕ). decimal m ++ codes "\n") (take k order) (n ∷ [])
    ∙ ap (λ xs. order_text (take k order) ++ xs) (append-nil (decimal n ++ codes "\n")))

pub edges_more : (edges : List Edge) (k : ℕ) (d : Edge) → k < length edges →
    flat_map edge_line (take (k + 1) edges) ≡ flat_map edge_line (take k edges) ++ edge_line (get_or edges k d)
edges_more edges k d within =
    let e = get_or edges k d in
    ap (flat_map edge_line) (take_more edges k d within)
    ∙ (flat_map-append edge_line (take k edges) (e ∷ []) ∙ ap (λ xs. flat_map edge_line (take k edges) ++ xs) (append-nil (edge_line e)))
