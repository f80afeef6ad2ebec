-- The places of numbers, found from the front of the list.
use Rattle.std.proofs.Common.{◌≡◌, ℕ, ◌+◌, ◌<◌, ◌≤◌, List, length, get_or, sym, ◌∙◌, ap, arith, inl, inr, Some}
use Rattle.std.specs.Prelude.{slice_get, slice_set, replicate}
use Rattle.std.proofs.lemmas.Bool.{cases_lt, cases_eq}
use Rattle.std.proofs.lemmas.List.{get_or-set_same, get_or-set_other, get_or-replicate, length-set, length-replicate}
use Rattle.std.proofs.lemmas.Option.{slice_get-get_or}
use Rattle.pg_span_run.specs.Places.{ArePlaces}

-- the place of a number among the first so many, where it has one there: else as many as the list
-- has
pub record IsPlaceIn (numbers : List ℕ) (done i place : ℕ) : Type 0 where
  pub there : place < length numbers → slice_get numbers place ≡ Some i
  pub nowhere : length numbers ≤ place → (k : ℕ) → k < done → slice_get numbers k ≡ Some i → ⊥

pub record ArePlacesIn (numbers : List ℕ) (done : ℕ) (places : List ℕ) : Type 0 where
  pub count : length places ≡ length numbers
  pub each : (i : ℕ) → i < length numbers → IsPlaceIn numbers done i (get_or places i 0)

pub none_found : (numbers places : List ℕ) → places ≡ replicate (length numbers) (length numbers) → ArePlacesIn numbers 0 places
none_found numbers places is = record {
  count = ap length is ∙ length-replicate (length numbers) (length numbers);
  each = λ i lt. let same : get_or places i 0 ≡ length numbers = ap (λ xs. get_or xs i 0) is ∙ get_or-replicate (length numbers) i (length numbers) 0 lt in
      record { there = λ low. absurd (omega (arith, same, low)); nowhere = λ low k none here. absurd (omega (arith, none)) };
}

some_same : (x y : ℕ) → Some x ≡ Some y → x ≡ y
some_same x y h = cc

-- the number at the next place
at_next : (numbers : List ℕ) (done x : ℕ) → done < length numbers → get_or numbers done 0 ≡ x → slice_get numbers done ≡ Some x
at_next numbers done x lt is = slice_get-get_or numbers done 0 lt ∙ ap Some is

pub one_found : (numbers places : List ℕ) (done x : ℕ) → done < length numbers → get_or numbers done 0 ≡ x → x < length numbers → ArePlacesIn numbers done places → ArePlacesIn numbers (done + 1) (slice_set places x done)
one_found numbers places done x lt is low h = record {
  count = length-set places x done ∙ h.count;
  each = λ i within. elim (cases_eq i x) [
    | inl same ↦
        let here : get_or (slice_set places x done) i 0 ≡ done = ap (λ j. get_or (slice_set places x done) j 0) same ∙ get_or-set_same places x done 0 (omega (arith, h.count, low)) in
        record {
          there = λ fits. ap (λ p. slice_get numbers p) here ∙ (at_next numbers done x lt is ∙ ap Some (sym same));
          nowhere = λ past k before at. absurd (omega (arith, here, past, lt));
        }
    | inr other ↦
        let stays : get_or (slice_set places x done) i 0 ≡ get_or places i 0 = get_or-set_other places x i done 0 other in
        let old : IsPlaceIn numbers done i (get_or places i 0) = h.each i within in
        record {
          there = λ fits. ap (λ p. slice_get numbers p) stays ∙ old.there (omega (arith, stays, fits));
          nowhere = λ past k before at. elim (cases_lt k done) [
            | inl less ↦ old.nowhere (omega (arith, stays, past)) k less at
            | inr more ↦
                let now : k ≡ done = omega (arith, before, more) in
                other (some_same i x (sym at ∙ (ap (λ p. slice_get numbers p) now ∙ at_next numbers done x lt is)))
          ];
        }
  ];
}

pub one_passed : (numbers places : List ℕ) (done x : ℕ) → done < length numbers → get_or numbers done 0 ≡ x → length numbers ≤ x → ArePlacesIn numbers done places → ArePlacesIn numbers (done + 1) places
one_passed numbers places done x lt is high h = record {
  count = h.count;
  each = λ i within. let old : IsPlaceIn numbers done i (get_or places i 0) = h.each i within in record {
    there = old.there;
    nowhere = λ past k before at. elim (cases_lt k done) [
      | inl less ↦ old.nowhere past k less at
      | inr more ↦
          let now : k ≡ done = omega (arith, before, more) in
          let same : i ≡ x = some_same i x (sym at ∙ (ap (λ p. slice_get numbers p) now ∙ at_next numbers done x lt is)) in
          omega (arith, same, within, high)
    ];
  };
}

pub all_found : (numbers places : List ℕ) (done : ℕ) → done ≡ length numbers → ArePlacesIn numbers done places → ArePlaces numbers places
all_found numbers places done end h = record {
  count = h.count;
  each = λ i lt. let old : IsPlaceIn numbers done i (get_or places i 0) = h.each i (omega (arith, lt, h.count)) in record {
    there = old.there;
    nowhere = λ past in_it. old.nowhere past in_it.0 (omega (arith, in_it.1, end)) (slice_get-get_or numbers in_it.0 i in_it.1 ∙ ap Some in_it.2);
  };
}
