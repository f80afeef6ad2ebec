-- Fills in the order of their moments.
use Rattle.std.proofs.Common.{◌≡◌, ℕ, zero, suc, ◌+◌, ◌<◌, ◌≤◌, ◌==◌, Bool, true, false, not, ◌&&◌, cond, List, [], ◌∷◌, ◌++◌, refl, ap, sym, ◌∙◌, inl, inr, arith, length, map, take, Some, get_or, nat_lt}
use Rattle.std.specs.Prelude.{filter, slice_get}
use Rattle.std.specs.Ordering.{nat_cmp, is_lt}
use Rattle.std.specs.declared.cmp.Ordering.TheVariants.{Less, Equal, Greater}
use Rattle.std.specs.List.Sorted.{ties, IsStableByKey, IsNonDecreasingBy}
use Rattle.std.proofs.lemmas.Bool.{cases_eq, cases_order, eq-eqb, ne_eqb, and_from, and_left, and_right, not_from_true, not_from_false, lt-ltb, le-ltb}
use Rattle.std.proofs.lemmas.List.{take_more}
use Rattle.std.proofs.lemmas.Option.{slice_get-get_or, slice_get_within, get_or_from_slice_get}
use Rattle.pg_entry.specs.declared.Level.TheVariants.{Four}
use Rattle.pg_event.specs.Values.{no_control}
use Rattle.pg_event.specs.Walk.{root_of}
use Rattle.pg_run_of.specs.declared.fill.Fill.{Fill}
use Rattle.pg_run_of.specs.Plan.{fill_by, step_of, fills_at}
use Rattle.pg_run_of.specs.Places.{IsPlace}
use Rattle.pg_run_of.proofs.Fills.{fills_here, fills_away, fills-append}

-- two moments tie where they are one
lt_is : (x z : Bool) → is_lt (cond x Less (cond z Equal Greater)) ≡ x
lt_is true z = refl
lt_is false true = refl
lt_is false false = refl

one_moment : (a b : ℕ) → (not (is_lt (nat_cmp b a)) && not (is_lt (nat_cmp a b))) ≡ (a == b)
one_moment a b =
    ap (λ x. not x && not (is_lt (nat_cmp a b))) (lt_is (nat_lt b a) (b == a)) ∙ ap (λ x. not (nat_lt b a) && not x) (lt_is (nat_lt a b) (a == b))
    ∙ elim (cases_order a b) as (λ _. (not (nat_lt b a) && not (nat_lt a b)) ≡ (a == b)) [
      | inl e ↦ and_from _ _ (not_from_false _ (le-ltb b a (omega (arith, e)))) (not_from_false _ (le-ltb a b (omega (arith, e)))) ∙ sym (eq-eqb a b e)
      | inr (inl lt) ↦ and_right (not (nat_lt b a)) (not (nat_lt a b)) (not_from_true _ (lt-ltb a b lt)) ∙ sym (ne_eqb a b (λ e. absurd (omega (arith, e, lt))))
      | inr (inr lt) ↦ and_left (not (nat_lt b a)) (not (nat_lt a b)) (not_from_true _ (lt-ltb b a lt)) ∙ sym (ne_eqb a b (λ e. absurd (omega (arith, e, lt))))
    ]

filter_alike : {X : Type 0} (p q : X → Bool) → ((x : X) → p x ≡ q x) → (xs : List X) → filter p xs ≡ filter q xs
filter_alike p q h [] = refl
filter_alike p q h (x ∷ xs) = ap (λ b. cond b (x ∷ filter p xs) (filter p xs)) (h x) ∙ ap (λ ys. cond (q x) (x ∷ ys) ys) (filter_alike p q h xs)

-- a stable sort by moment keeps the fills of each
pub same_fills : (xs ys : List Fill) → IsStableByKey (λ (f : Fill). f.moment) nat_cmp xs ys → (w : ℕ) → fills_at w ys ≡ fills_at w xs
same_fills xs ys h w =
    let f : Fill = fill_by true 0 0 Four (root_of no_control) w in
    let tied : Fill → Bool = ties (λ (a b : Fill). is_lt (nat_cmp a.moment b.moment)) f in
    let at : Fill → Bool = λ g. g.moment == w in
    ap (map step_of) (filter_alike at tied (λ g. sym (one_moment g.moment w)) ys ∙ h f ∙ filter_alike tied at (λ g. one_moment g.moment w) xs)

-- one more fill of the moment
pub due_more : (fills : List Fill) (k w : ℕ) (f : Fill) → slice_get fills k ≡ Some f → f.moment ≡ w → fills_at w (take (k + 1) fills) ≡ fills_at w (take k fills) ++ step_of f ∷ []
due_more fills k w f h e =
    ap (fills_at w) (take_more fills k f (slice_get_within fills k f h) ∙ ap (λ (g : Fill). take k fills ++ g ∷ []) (get_or_from_slice_get fills k f f h))
    ∙ fills-append w (take k fills) (f ∷ []) ∙ ap (λ xs. fills_at w (take k fills) ++ xs) (fills_here w f [] e)

pub later_same : (fills : List Fill) (k v : ℕ) (f : Fill) → slice_get fills k ≡ Some f → (f.moment ≡ v → ⊥) → fills_at v (take k fills) ≡ [] → fills_at v (take (k + 1) fills) ≡ []
later_same fills k v f h ne none =
    ap (fills_at v) (take_more fills k f (slice_get_within fills k f h) ∙ ap (λ (g : Fill). take k fills ++ g ∷ []) (get_or_from_slice_get fills k f f h))
    ∙ fills-append v (take k fills) (f ∷ []) ∙ ap (λ xs. xs ++ fills_at v (f ∷ [])) none ∙ fills_away v f [] ne

-- where all from number k on are later
pub none_past : (w : ℕ) (fills : List Fill) (k : ℕ) → ((j : ℕ) (f : Fill) → k ≤ j → slice_get fills j ≡ Some f → w + 1 ≤ f.moment) → fills_at w fills ≡ fills_at w (take k fills)
none_past w [] zero all = refl
none_past w [] (suc k) all = refl
none_past w (f ∷ fs) zero all =
    let late : w + 1 ≤ f.moment = all 0 f (omega arith) refl in
    fills_away w f fs (λ e. absurd (omega (arith, late, e))) ∙ none_past w fs zero (λ j g low h. all (suc j) g (omega arith) h)
none_past w (f ∷ fs) (suc k) all =
    let more : fills_at w fs ≡ fills_at w (take k fs) = none_past w fs k (λ j g low h. all (suc j) g (omega (arith, low)) h) in
    elim (cases_eq f.moment w) [
      | inl here ↦ fills_here w f fs here ∙ ap (λ xs. step_of f ∷ xs) more ∙ sym (fills_here w f (take k fs) here)
      | inr away ↦ fills_away w f fs away ∙ more ∙ sym (fills_away w f (take k fs) away)
    ]

-- all fills of the moment have been taken
pub due_done : (fills : List Fill) (w from k : ℕ) → IsNonDecreasingBy (λ (f : Fill). f.moment) fills → IsPlace fills w from → from ≤ k →
    ((v : ℕ) → w + 1 ≤ v → fills_at v (take k fills) ≡ []) → ((f : Fill) → slice_get fills k ≡ Some f → f.moment ≡ w → ⊥) → IsPlace fills (w + 1) k
due_done fills w from k order place low none stop = record {
  before = none;
  after = λ j f past h.
      let within : j < length fills = slice_get_within fills j f h in
      let at : Fill = get_or fills k f in
      let here : slice_get fills k ≡ Some at = slice_get-get_or fills k f (omega (arith, past, within)) in
      let first : w ≤ at.moment = place.after k at low here in
      let mine : at.moment ≤ (get_or fills j f).moment = order k j f past within in
      let same : (get_or fills j f).moment ≡ f.moment = ap (λ (g : Fill). g.moment) (get_or_from_slice_get fills j f f h) in
      elim (cases_eq at.moment w) as (λ _. w + 1 ≤ f.moment) [
        | inl e ↦ absurd (stop at here e)
        | inr ne ↦ omega (arith, first, mine, same, ne)
      ];
}

-- at the first moment none has been
pub place_first : (fills : List Fill) → IsPlace fills 0 0
place_first fills = record { before = λ v low. refl; after = λ j f low h. omega arith }
