-- Laws of merged logs.
use Rattle.std.proofs.Common.{◌≡◌, ℕ, zero, suc, ◌+◌, ◌-◌, ◌<◌, ◌≤◌, Bool, true, cond, ◌==◌, List, [], ◌∷◌, length, map, get_or, Some, refl, sym, ap, subst, ◌∙◌, arith, inl, inr}
use Rattle.std.specs.Prelude.{slice_get, ◌↔◌}
use Rattle.std.specs.List.{All, filter, count_by}
use Rattle.std.specs.List.Sorted.{IsPartitionedBy}
use Rattle.std.proofs.lemmas.Bool.{cases_Bool, lt-ltb, ltb-true, both_ways, false_from_ne_true}
use Rattle.std.proofs.lemmas.List.Sorted.{IsPartitionedBy-ltb, All-permutation}
use Rattle.std.proofs.lemmas.List.Sums.{sum_by-cons}
use Rattle.std.proofs.lemmas.Option.{slice_get_within, get_or_from_slice_get}
use Rattle.pg_event.specs.Form.{processor_of}
use Rattle.pg_span_run.specs.Orders.{ended_before}
use Rattle.pg_span_run.specs.declared.log.Stamped.{Stamped}
use Rattle.pg_span_run.specs.Runs.{events_of}
use Rattle.pg_span_run.specs.Merged.{had_ended}
use Rattle.pg_span_run.specs.LogLaws.{MergedLogsKeepPrograms, SpansAreAsStamped}
use Rattle.pg_span_run.proofs.Lists.{counted_most}
use Rattle.pg_span_run.proofs.EndStamps.{rising_ends, ended_first}
use Rattle.pg_span_run.proofs.Whole.{all_spans}

filter_mapped : {X Y : Type 0} (f : X → Y) (p : Y → Bool) (xs : List X) → filter p (map f xs) ≡ map f (filter (λ x. p (f x)) xs)
filter_mapped f p [] = refl
filter_mapped f p (x ∷ xs) = elim (cases_Bool (p (f x))) [
  | inl on ↦ rw (on, filter_mapped f p xs) refl
  | inr off ↦ rw off (filter_mapped f p xs)
]

pub merged_logs_keep_programs : MergedLogsKeepPrograms
merged_logs_keep_programs logs error run merged k d lt =
    let p : ℕ = (get_or logs k d).head.own in
    ap (filter (λ e. processor_of e == p)) merged.spelled.events
    ∙ (filter_mapped (λ (x : Stamped). x.event) (λ e. processor_of e == p) merged.all ∙ ap (map (λ (x : Stamped). x.event)) (merged.own k d lt))

-- a test that holds of the first so many elements
counted_least : {X : Type 0} (p : X → Bool) (xs : List X) (n : ℕ) → n ≤ length xs → ((k : ℕ) (d : X) → k < n → p (get_or xs k d) ≡ true) → n ≤ count_by p xs
counted_least p xs zero le holds = omega arith
counted_least p [] (suc n) le holds = absurd (omega (arith, le))
counted_least p (x ∷ xs) (suc n) le holds =
    let here : cond {A = ℕ} (p x) 1 0 ≡ 1 = rw (holds 0 x (omega arith)) refl in
    let rest : n ≤ count_by p xs = counted_least p xs n (omega (arith, le)) (λ k d lt. holds (suc k) d (omega (arith, lt))) in
    let step : count_by p (x ∷ xs) ≡ cond {A = ℕ} (p x) 1 0 + count_by p xs = sum_by-cons (λ y. cond {A = ℕ} (p y) 1 0) x xs in
    omega (arith, here, rest, step)

-- a test that no element passes after one that fails it
stands_first : {X : Type 0} (p : X → Bool) (xs : List X) (j : ℕ) (y : X) → IsPartitionedBy p xs → slice_get xs j ≡ Some y → (j < count_by p xs) ↔ (p y ≡ true)
stands_first p xs j y parted there =
    let within : j < length xs = slice_get_within xs j y there in
    let here : get_or xs j y ≡ y = get_or_from_slice_get xs j y y there in (
      λ less. elim (cases_Bool (p y)) [
        | inl on ↦ on
        | inr off ↦
            let most : count_by p xs ≤ j = counted_most p xs j (λ k d low lt. false_from_ne_true (p (get_or xs k d)) (λ on. both_ways (p y) off (subst (λ z. p z ≡ true) (get_or_from_slice_get xs j y d there) (parted j k d low lt on)))) in
            absurd (omega (arith, most, less))
      ],
      λ on. let least : j + 1 ≤ count_by p xs = counted_least p xs (j + 1) (omega (arith, within)) (λ k d lt. parted k j d (omega (arith, lt)) within (subst (λ z. p z ≡ true) (sym (get_or_from_slice_get xs j y d there)) on)) in omega (arith, least),
    )

pub spans_are_as_stamped : SpansAreAsStamped
spans_are_as_stamped logs error run merged are j i y x first second =
    let all : List Stamped = merged.all in
    let spans : All (λ z. z.begin ≤ z.end) all = All-permutation (λ z. z.begin ≤ z.end) (events_of logs) all merged.same (all_spans logs are) in
    let ended : ℕ = count_by (had_ended error x) all in
    let parted : IsPartitionedBy (had_ended error x) all = IsPartitionedBy-ltb (λ z. z.end + error) all (x.begin - error) (rising_ends error all merged.rises) in
    let is : x ≡ get_or all i x = sym (get_or_from_slice_get all i x x second) in
    let most : ended ≤ i = ended_first error all i x merged.rises spans (slice_get_within all i x second) is in
    let before : ended_before run i ≡ ended = omega (arith, most, merged.spelled.backs i x second) in
    let told = stands_first (had_ended error x) all j y parted first in (
      λ less. ltb-true (y.end + error) (x.begin - error) (told.0 (omega (arith, less, before))),
      λ lower. let less : j < ended = told.1 (lt-ltb (y.end + error) (x.begin - error) lower) in omega (arith, less, before),
    )
