use Rattle.std.proofs.Common.{◌≡◌, ℕ, List, length, take, drop, min, ap, sym, ◌∙◌, arith, inl, inr}
use Rattle.std.proofs.lemmas.Bool.{cases_lt}
use Rattle.std.proofs.lemmas.List.{take_all}
use Rattle.std.proofs.Math.ListN.{drop_of_length-le}
use Rattle.pg_event.specs.declared.event.Event.{Event}
use Rattle.pg_codec.proofs.writer.cut_segment.Goals as goal

take_min : (k n : ℕ) (xs : List Event) → n ≡ min (length xs) k → take n xs ≡ take k xs
take_min k n xs e =
    elim (cases_lt (length xs) k) [
      | inl lt ↦ take_all n xs (omega (arith, e)) ∙ sym (take_all k xs (omega arith))
      | inr le ↦ let same : n ≡ k = omega (arith, e) in ap (λ (j : ℕ). take j xs) same
    ]

drop_min : (k n : ℕ) (xs : List Event) → n ≡ min (length xs) k → drop n xs ≡ drop k xs
drop_min k n xs e =
    elim (cases_lt (length xs) k) [
      | inl lt ↦ drop_of_length-le xs (omega (arith, e)) ∙ sym (drop_of_length-le xs (omega arith))
      | inr le ↦ let same : n ≡ k = omega (arith, e) in ap (λ (j : ℕ). drop j xs) same
    ]

pub returns-clause-front : goal.returns-clause-front
returns-clause-front c = c.split_at.ensures.front ∙ take_min c.args.size c.min.result c.args.events.now c.min.ensures

pub returns-clause-others : goal.returns-clause-others
returns-clause-others c = c.split_at.ensures.back ∙ drop_min c.args.size c.min.result c.args.events.now c.min.ensures
