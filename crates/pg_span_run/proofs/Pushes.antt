-- Bytes that are pushed item by item.
use Rattle.std.proofs.Common.{◌≡◌, ℕ, ◌+◌, ◌≤◌, List, [], ◌∷◌, ◌++◌, length, take, sym, ap, ◌∙◌, append_assoc}
use Rattle.std.specs.List.{flat_map}
use Rattle.std.proofs.lemmas.List.{append-nil, take_all}
use Rattle.std.proofs.lemmas.List.Concat.{flat_map-append}

module _ {A : Type 0} (spell : A → List ℕ) (items : List A) (i : ℕ) (old now : List ℕ) (so_far : now ≡ old ++ flat_map spell (take i items)) where
  pub pushed_on : (x : A) (new : List ℕ) → take (i + 1) items ≡ take i items ++ x ∷ [] → new ≡ now ++ spell x → new ≡ old ++ flat_map spell (take (i + 1) items)
  pushed_on x new taken e =
      let flat : flat_map spell (take (i + 1) items) ≡ flat_map spell (take i items) ++ spell x =
      ap (flat_map spell) taken ∙ flat_map-append spell (take i items) (x ∷ []) ∙ ap (λ (l : List ℕ). flat_map spell (take i items) ++ l) (append-nil (spell x)) in
      e ∙ ap (λ (l : List ℕ). l ++ spell x) so_far ∙ append_assoc old (flat_map spell (take i items)) (spell x) ∙ ap (λ (l : List ℕ). old ++ l) (sym flat)

  pub pushed_all : length items ≤ i → now ≡ old ++ flat_map spell items
  pushed_all le = so_far ∙ ap (λ (xs : List A). old ++ flat_map spell xs) (take_all i items le)
