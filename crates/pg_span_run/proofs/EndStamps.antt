-- Events by their end stamps.
use Rattle.std.proofs.Common.{◌≡◌, ℕ, suc, ◌+◌, ◌-◌, ◌<◌, ◌≤◌, Bool, false, ◌==◌, List, [], ◌∷◌, ◌++◌, length, get_or, Some, refl, sym, ap, ◌∙◌, subst, arith, inl, inr, eq-eqb}
use Rattle.std.specs.List.{AllByRecursion, AllAdjacentBelow, filter}
use Rattle.std.specs.List.Sorted.{IsNonDecreasingBy}
use Rattle.std.proofs.lemmas.List.Sorted.{IsNonDecreasingBy-from_all_adjacent}
use Rattle.std.proofs.lemmas.Bool.{cases_Bool, cases_lt, cases_eq, ne_eqb, le-ltb}
use Rattle.pg_span_run.specs.declared.log.Stamped.{Stamped}
use Rattle.pg_span_run.specs.Logs.{Rise}
use Rattle.pg_span_run.specs.Merged.{EndsFirst}
use Rattle.pg_span_run.specs.Merged.{had_ended}
use Rattle.pg_span_run.proofs.Lists.{each_weaker, each_filter, filter_none, counted_most}
use Rattle.pg_span_run.proofs.Elements.{found}
use Rattle.std.specs.List.{All, count_by}
use Rattle.std.specs.Prelude.{slice_get}
use Rattle.std.proofs.lemmas.List.{get_or_push}
use Rattle.std.proofs.Math.ListN.{get_or-append}
use Rattle.std.proofs.lemmas.Option.{get_or_from_slice_get}

-- each event ends no later than those after it
abbrev pub Up : List Stamped → Type 0
Up [] = Unit {0}
Up (x ∷ xs) = AllByRecursion (λ y. x.end ≤ y.end) xs × Up xs

abbrev pub ends_at : ℕ → Stamped → Bool
ends_at k x = x.end == k

pub up_adjacent : (xs : List Stamped) → ((k : ℕ) (d : Stamped) → suc k < length xs → (get_or xs k d).end ≤ (get_or xs (suc k) d).end) → Up xs
up_adjacent [] h = tt
up_adjacent (x ∷ []) h = (tt, tt)
up_adjacent (x ∷ y ∷ ys) h =
    let first : x.end ≤ y.end = h 0 x (omega arith) in
    let rest : Up (y ∷ ys) = up_adjacent (y ∷ ys) (λ k d lt. h (suc k) d (omega (arith, lt))) in
    ((first, each_weaker (λ z. y.end ≤ z.end) (λ z. x.end ≤ z.end) (λ z le. omega (arith, first, le)) ys rest.0), rest)

pub up_first : (xs : List Stamped) → AllAdjacentBelow EndsFirst xs (length xs) → Up xs
up_first xs h = up_adjacent xs (λ k d lt. elim (at k d lt) [ inl less ↦ omega (arith, less) | inr tie ↦ omega (arith, tie.0) ])
  where
    at : (k : ℕ) (d : Stamped) → suc k < length xs → EndsFirst (get_or xs k d) (get_or xs (suc k) d)
    at k d lt = let next : k + 1 ≡ suc k = omega arith in subst (λ n. EndsFirst (get_or xs k d) (get_or xs n d)) next (h k d (omega (arith, lt)))

pub up_filter : (p : Stamped → Bool) (xs : List Stamped) → Up xs → Up (filter p xs)
up_filter p [] up = tt
up_filter p (x ∷ xs) up = elim (cases_Bool (p x)) [
  | inl on ↦ rw on (each_filter (λ y. x.end ≤ y.end) p xs up.0, up_filter p xs up.1)
  | inr off ↦ rw off (up_filter p xs up.1)
]

above : (last : ℕ) (xs : List Stamped) → Rise last xs → AllByRecursion (λ y. last ≤ y.end) xs
above last [] h = tt
above last (x ∷ xs) h =
    let here : last ≤ x.end = omega (arith, h.0.begins, h.0.ends) in
    (here, each_weaker (λ y. x.end ≤ y.end) (λ y. last ≤ y.end) (λ y le. omega (arith, here, le)) xs (above x.end xs h.1))

pub up_rise : (last : ℕ) (xs : List Stamped) → Rise last xs → Up xs
up_rise last [] h = tt
up_rise last (x ∷ xs) h = (above x.end xs h.1, up_rise x.end xs h.1)

pub spans_rise : (last : ℕ) (xs : List Stamped) → Rise last xs → AllByRecursion (λ x. x.begin ≤ x.end) xs
spans_rise last [] h = tt
spans_rise last (x ∷ xs) h = (omega (arith, h.0.ends), spans_rise x.end xs h.1)

-- one list of events that rise has no event at a stamp at which another one begins
kept : (x : Stamped) (xs : List Stamped) → filter (ends_at x.end) (x ∷ xs) ≡ x ∷ filter (ends_at x.end) xs
kept x xs = rw (eq-eqb x.end x.end refl) refl

left_out : (k : ℕ) (x : Stamped) (xs : List Stamped) → (x.end ≡ k → ⊥) → filter (ends_at k) (x ∷ xs) ≡ filter (ends_at k) xs
left_out k x xs other = rw (ne_eqb x.end k other) refl

first_le : (z w : Stamped) (zs ws : List Stamped) → Up (w ∷ ws) → filter (ends_at z.end) (z ∷ zs) ≡ filter (ends_at z.end) (w ∷ ws) → w.end ≤ z.end
first_le z w zs ws up h = elim (cases_lt z.end w.end) [
  | inl less ↦
      let later : AllByRecursion (λ y. ends_at z.end y ≡ false) ws = each_weaker (λ y. w.end ≤ y.end) (λ y. ends_at z.end y ≡ false) (λ y le. ne_eqb y.end z.end (λ e. absurd (omega (arith, less, le, e)))) ws up.0 in
      let none : filter (ends_at z.end) (w ∷ ws) ≡ [] = filter_none (ends_at z.end) (w ∷ ws) (ne_eqb w.end z.end (λ e. absurd (omega (arith, less, e))), later) in
      let some : z ∷ filter (ends_at z.end) zs ≡ [] = sym (kept z zs) ∙ (h ∙ none) in
      absurd (cc)
  | inr more ↦ more
]

-- events that rise are told by those that end at each stamp
pub same_by_ends : (zs ws : List Stamped) → Up zs → Up ws → ((k : ℕ) → filter (ends_at k) zs ≡ filter (ends_at k) ws) → zs ≡ ws
same_by_ends [] [] a b h = refl
same_by_ends [] (w ∷ ws) a b h = let e : [] ≡ w ∷ filter (ends_at w.end) ws = h w.end ∙ kept w ws in absurd (cc)
same_by_ends (z ∷ zs) [] a b h = let e : z ∷ filter (ends_at z.end) zs ≡ [] = sym (kept z zs) ∙ h z.end in absurd (cc)
same_by_ends (z ∷ zs) (w ∷ ws) a b h =
    let low : w.end ≤ z.end = first_le z w zs ws b (h z.end) in
    let high : z.end ≤ w.end = first_le w z ws zs a (sym (h w.end)) in
    let end : z.end ≡ w.end = omega (arith, low, high) in
    let both : z ∷ filter (ends_at z.end) zs ≡ w ∷ filter (ends_at z.end) ws = sym (kept z zs) ∙ (h z.end ∙ subst (λ k. filter (ends_at k) (w ∷ ws) ≡ w ∷ filter (ends_at k) ws) (sym end) (kept w ws)) in
    let first : z ≡ w = cc in
    let rest : zs ≡ ws = same_by_ends zs ws a.1 b.1 (λ k. others z w zs ws end h (cc) k) in
    cc
  where
    others : (z w : Stamped) (zs ws : List Stamped) → z.end ≡ w.end → ((k : ℕ) → filter (ends_at k) (z ∷ zs) ≡ filter (ends_at k) (w ∷ ws)) → filter (ends_at z.end) zs ≡ filter (ends_at z.end) ws → (k : ℕ) → filter (ends_at k) zs ≡ filter (ends_at k) ws
    others z w zs ws end h here k = elim (cases_eq z.end k) [
      | inl same ↦ subst (λ n. filter (ends_at n) zs ≡ filter (ends_at n) ws) same here
      | inr other ↦ sym (left_out k z zs other) ∙ (h k ∙ left_out k w ws (λ e. other (end ∙ e)))
    ]

pub rising_ends : (error : ℕ) (xs : List Stamped) → AllAdjacentBelow EndsFirst xs (length xs) → IsNonDecreasingBy (λ y. y.end + error) xs
rising_ends error xs h = IsNonDecreasingBy-from_all_adjacent (λ y. y.end + error) xs (λ k d lt. elim (h k d lt) [ inl less ↦ omega (arith, less) | inr tie ↦ omega (arith, tie.0) ])

-- what had ended when an event began stands before it
pub ended_first : (error : ℕ) (all : List Stamped) (i : ℕ) (x : Stamped) → AllAdjacentBelow EndsFirst all (length all) → All (λ y. y.begin ≤ y.end) all → i < length all → x ≡ get_or all i x → count_by (had_ended error x) all ≤ i
ended_first error all i x rises spans lt is = counted_most (had_ended error x) all i (λ k d low within. le-ltb ((get_or all k d).end + error) (x.begin - error) (later k d low within))
  where
    later : (k : ℕ) (d : Stamped) → i ≤ k → k < length all → x.begin - error ≤ (get_or all k d).end + error
    later k d low within =
        let up : (get_or all i d).end + error ≤ (get_or all k d).end + error = rising_ends error all rises i k d low within in
        let here : get_or all i d ≡ x = get_or_from_slice_get all i x d (found all i x lt is) in
        let span : x.begin ≤ x.end = subst (λ (y : Stamped). y.begin ≤ y.end) here (spans i d lt) in
        omega (arith, up, span, ap (λ (y : Stamped). y.end) here)

-- the span of one event more
pub spans_more : (error : ℕ) (all : List Stamped) (backs : List ℕ) (i ended : ℕ) (x : Stamped) → i < length all → x ≡ get_or all i x → length backs ≡ i → ended ≡ count_by (had_ended error x) all →
    ((k : ℕ) (y : Stamped) → k < i → slice_get all k ≡ Some y → get_or backs k 0 ≡ k - count_by (had_ended error y) all) → (k : ℕ) (y : Stamped) → k < i + 1 → slice_get all k ≡ Some y →
    get_or (backs ++ (i - ended) ∷ []) k 0 ≡ k - count_by (had_ended error y) all
spans_more error all backs i ended x lt is long count each k y less there = elim (cases_lt k i) [
  | inl before ↦ get_or-append backs ((i - ended) ∷ []) 0 k (omega (arith, before, long)) ∙ each k y before there
  | inr more ↦
      let same : i ≡ k = omega (arith, less, more) in
      let here : slice_get all k ≡ Some x = subst (λ n. slice_get all n ≡ Some x) same (found all i x lt is) in
      let both : Some y ≡ Some x = sym there ∙ here in
      let one : y ≡ x = cc in
      let own : ended ≡ count_by (had_ended error y) all = subst (λ (z : Stamped). ended ≡ count_by (had_ended error z) all) (sym one) count in
      get_or_push backs (i - ended) 0 k (long ∙ same) ∙ (ap (λ n. n - ended) same ∙ ap (λ n. k - n) own)
]
