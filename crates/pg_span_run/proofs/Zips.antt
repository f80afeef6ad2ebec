-- Events and spans in two lists, and in one.
use Rattle.std.proofs.Common.{◌≡◌, ℕ, zero, suc, ◌+◌, ◌-◌, ◌<◌, ◌≤◌, min, List, [], ◌∷◌, ◌++◌, length, take, drop, refl, sym, ap, ◌∙◌, arith, append_assoc, inl, inr}
use Rattle.std.specs.List.{zip}
use Rattle.std.proofs.lemmas.Bool.{cases_lt}
use Rattle.std.proofs.lemmas.List.{take_all, drop_all, length-drop}
use Rattle.pg_event.specs.declared.event.Event.{Event}
use Rattle.pg_event.specs.Heads.{Head}
use Rattle.pg_span_run.specs.Spelling.{Timed, timed_segment_bytes, timed_segments_bytes}

pub zip_count : {A B : Type 0} (es : List A) (bs : List B) → length bs ≡ length es → length (zip es bs) ≡ length es
zip_count [] bs h = refl
zip_count (e ∷ es) [] h = absurd (omega (arith, h))
zip_count (e ∷ es) (b ∷ bs) h = ap suc (zip_count es bs (omega (arith, h)))

zip_none : {A B : Type 0} (es : List A) (none : List B) → none ≡ [] → zip es none ≡ []
zip_none [] none h = refl
zip_none (e ∷ es) [] h = refl
zip_none (e ∷ es) (b ∷ bs) h = absurd cc

zip_take : {A B : Type 0} (n : ℕ) (es : List A) (bs : List B) → zip (take n es) (take n bs) ≡ take n (zip es bs)
zip_take zero es bs = refl
zip_take (suc n) [] bs = refl
zip_take (suc n) (e ∷ es) [] = refl
zip_take (suc n) (e ∷ es) (b ∷ bs) = ap (λ (l : List _). (e, b) ∷ l) (zip_take n es bs)

zip_drop : {A B : Type 0} (n : ℕ) (es : List A) (bs : List B) → zip (drop n es) (drop n bs) ≡ drop n (zip es bs)
zip_drop zero es bs = refl
zip_drop (suc n) [] bs = refl
zip_drop (suc n) (e ∷ es) [] = zip_none (drop n es) [] refl
zip_drop (suc n) (e ∷ es) (b ∷ bs) = zip_drop n es bs

zip_last : {A B : Type 0} (es : List A) (bs : List B) (e : A) (b : B) → length bs ≡ length es → zip (es ++ e ∷ []) (bs ++ b ∷ []) ≡ zip es bs ++ (e, b) ∷ []
zip_last [] [] e b h = refl
zip_last [] (c ∷ bs) e b h = absurd (omega (arith, h))
zip_last (d ∷ es) [] e b h = absurd (omega (arith, h))
zip_last (d ∷ es) (c ∷ bs) e b h = ap (λ (l : List _). (d, c) ∷ l) (zip_last es bs e b (omega (arith, h)))

-- the first so many pairs, and one more
pub zip_more : {A B : Type 0} (es : List A) (bs : List B) (i : ℕ) (e : A) (b : B) → take (i + 1) es ≡ take i es ++ e ∷ [] → take (i + 1) bs ≡ take i bs ++ b ∷ [] → length (take i es) ≡ i → length (take i bs) ≡ i
    → take (i + 1) (zip es bs) ≡ take i (zip es bs) ++ (e, b) ∷ []
zip_more es bs i e b he hb le lb =
    sym (zip_take (i + 1) es bs) ∙ ap (λ xs. zip xs (take (i + 1) bs)) he ∙ ap (λ ys. zip (take i es ++ e ∷ []) ys) hb
    ∙ zip_last (take i es) (take i bs) e b (lb ∙ sym le) ∙ ap (λ (l : List _). l ++ (e, b) ∷ []) (zip_take i es bs)

-- the bound on how many segments there are does not matter, where it is not below the events
same_segments : (head : Head) (number n m : ℕ) (xs : List Timed) → 1 ≤ head.segment → length xs ≤ n → length xs ≤ m → timed_segments_bytes head number n xs ≡ timed_segments_bytes head number m xs
same_segments head number n m [] some p q = refl
same_segments head number zero m (x ∷ xs) some p q = absurd (omega arith)
same_segments head number (suc n) zero (x ∷ xs) some p q = absurd (omega arith)
same_segments head number (suc n) (suc m) (x ∷ xs) some p q =
    let fewer : length (drop head.segment (x ∷ xs)) ≡ length (x ∷ xs) - head.segment = length-drop head.segment (x ∷ xs) in
    ap (λ (l : List ℕ). timed_segment_bytes head.version number (take head.segment (x ∷ xs)) ++ l)
    (same_segments head (number + 1) n m (drop head.segment (x ∷ xs)) some (omega (arith, fewer)) (omega (arith, fewer)))

first_segment : (head : Head) (number n : ℕ) (xs : List Timed) → 1 ≤ head.segment → 0 < length xs → length xs ≡ n
    → timed_segments_bytes head number n xs ≡ timed_segment_bytes head.version number (take head.segment xs)
    ++ timed_segments_bytes head (number + 1) (length (drop head.segment xs)) (drop head.segment xs)
first_segment head number n [] some more same = absurd (omega arith)
first_segment head number zero (x ∷ xs) some more same = absurd (omega (arith, same))
first_segment head number (suc n) (x ∷ xs) some more same =
    let fewer : length (drop head.segment (x ∷ xs)) ≡ length (x ∷ xs) - head.segment = length-drop head.segment (x ∷ xs) in
    ap (λ (l : List ℕ). timed_segment_bytes head.version number (take head.segment (x ∷ xs)) ++ l)
    (same_segments head (number + 1) n (length (drop head.segment (x ∷ xs))) (drop head.segment (x ∷ xs)) some (omega (arith, fewer, same)) (omega (arith, fewer)))

pub take_min : {A : Type 0} (k n : ℕ) (xs : List A) → n ≡ min (length xs) k → take n xs ≡ take k xs
take_min k n xs e =
    elim (cases_lt (length xs) k) [
      | inl lt ↦ take_all n xs (omega (arith, e)) ∙ sym (take_all k xs (omega arith))
      | inr le ↦ let same : n ≡ k = omega (arith, e) in ap (λ (j : ℕ). take j xs) same
    ]

pub drop_min : {A : Type 0} (k n : ℕ) (xs : List A) → n ≡ min (length xs) k → drop n xs ≡ drop k xs
drop_min k n xs e =
    elim (cases_lt (length xs) k) [
      | inl lt ↦ drop_all n xs (omega (arith, e)) ∙ sym (drop_all k xs (omega arith))
      | inr le ↦ let same : n ≡ k = omega (arith, e) in ap (λ (j : ℕ). drop j xs) same
    ]

-- one more segment is pushed
module _ (head : Head) (number n : ℕ) (es front others : List Event) (bs front_backs other_backs now total : List ℕ) (some : 1 ≤ head.segment) (more : 0 < length es) (same : length bs ≡ length es)
    (n_is : n ≡ min (length es) head.segment) (front_is : front ≡ take n es) (others_are : others ≡ drop n es) (front_backs_are : front_backs ≡ take n bs) (other_backs_are : other_backs ≡ drop n bs) where
  backs_min : n ≡ min (length bs) head.segment
  backs_min = n_is ∙ ap (λ (k : ℕ). min k head.segment) (sym same)

  front_zip : zip front front_backs ≡ take head.segment (zip es bs)
  front_zip =
      ap (λ (xs : List Event). zip xs front_backs) (front_is ∙ take_min head.segment n es n_is)
      ∙ ap (zip (take head.segment es)) (front_backs_are ∙ take_min head.segment n bs backs_min) ∙ zip_take head.segment es bs

  others_zip : zip others other_backs ≡ drop head.segment (zip es bs)
  others_zip =
      ap (λ (xs : List Event). zip xs other_backs) (others_are ∙ drop_min head.segment n es n_is)
      ∙ ap (zip (drop head.segment es)) (other_backs_are ∙ drop_min head.segment n bs backs_min) ∙ zip_drop head.segment es bs

  pub others_count : length other_backs ≡ length others
  others_count =
      ap (λ (xs : List ℕ). length xs) other_backs_are ∙ length-drop n bs ∙ ap (λ (k : ℕ). k - n) same ∙ sym (length-drop n es) ∙ ap (λ (xs : List Event). length xs) (sym others_are)

  pub segment_pushed : (new : List ℕ) → now ++ timed_segments_bytes head number (length es) (zip es bs) ≡ total → new ≡ now ++ timed_segment_bytes head.version number (zip front front_backs)
      → new ++ timed_segments_bytes head (number + 1) (length others) (zip others other_backs) ≡ total
  segment_pushed new so_far pushed =
      let xs : List Timed = zip es bs in
      let count : length xs ≡ length es = zip_count es bs same in
      let rest : ℕ → List Timed → List ℕ = λ k ys. timed_segments_bytes head (number + 1) k ys in
      let rest_count : length others ≡ length (drop head.segment xs) = sym (zip_count others other_backs others_count) ∙ ap (λ (ys : List Timed). length ys) others_zip in
      ap (λ (l : List ℕ). l ++ rest (length others) (zip others other_backs)) (pushed ∙ ap (λ (ys : List Timed). now ++ timed_segment_bytes head.version number ys) front_zip)
      ∙ ap (λ (ys : List Timed). (now ++ timed_segment_bytes head.version number (take head.segment xs)) ++ rest (length others) ys) others_zip
      ∙ ap (λ (k : ℕ). (now ++ timed_segment_bytes head.version number (take head.segment xs)) ++ rest k (drop head.segment xs)) rest_count
      ∙ append_assoc now (timed_segment_bytes head.version number (take head.segment xs)) (rest (length (drop head.segment xs)) (drop head.segment xs))
      ∙ ap (λ (l : List ℕ). now ++ l) (sym (first_segment head number (length es) xs some (omega (arith, count, more)) count))
      ∙ so_far
