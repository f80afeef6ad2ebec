-- Orders that begin with some numbers.
use Rattle.std.proofs.Common.{◌≡◌, ℕ, zero, suc, ◌+◌, ◌<◌, ◌≤◌, List, [], ◌∷◌, ◌++◌, length, take, map, refl, sym, ap, subst, ◌∙◌, arith, inl, inr, Some}
use Rattle.std.specs.Prelude.{slice_get}
use Rattle.std.specs.Option.{option_to_list}
use Rattle.std.proofs.lemmas.Bool.{cases_lt}
use Rattle.std.proofs.lemmas.List.{length-append}
use Rattle.std.proofs.lemmas.Grind.{flat_map-append}
use Rattle.std.proofs.lemmas.Option.{slice_get-get_or, slice_get_within, get_or_from_slice_get}
use Rattle.pg_event.specs.declared.event.Event.{Event}
use Rattle.pg_run_of.specs.Converse.{without_moments}
use Rattle.pg_search.specs.Law.{RunBeginsWith}
use Rattle.pg_certify.specs.Certified.{IsDenied, HasRunButMoments, DeniedEventsHaveNoRun}
use Rattle.pg_span_run.specs.Orders.{Spanned, MustPrecede, StandsBefore, IsOrder, ordered}
use Rattle.pg_span_run.specs.OrderLaws.{EachPrecedesNext}
use Rattle.pg_span_run.specs.Spanned.{IsSpanned}
use Rattle.pg_span_run.proofs.Orders.{are_all, order_within}
use Rattle.pg_span_run.proofs.Places.{stands_once}
use Rattle.pg_span_verdict.specs.Runs.{HasOrderedRun}
use Rattle.pg_span_verdict.specs.Trying.{AreNumbers, Lacks, LacksEarlier, NoneBegins, NoneBelow, AreTried}
use Rattle.pg_span_verdict.proofs.Meaning.{begins, ordered-well, length-ordered}

pub joined : (front rest : List ℕ) (i : ℕ) → (front ++ i ∷ []) ++ rest ≡ front ++ i ∷ rest
joined [] rest i = refl
joined (x ∷ xs) rest i = ap (λ ys. x ∷ ys) (joined xs rest i)

pub no_end : (xs : List ℕ) → xs ++ [] ≡ xs
no_end [] = refl
no_end (x ∷ xs) = ap (λ ys. x ∷ ys) (no_end xs)

front_at : (front rest : List ℕ) (k : ℕ) → k < length front → slice_get (front ++ rest) k ≡ slice_get front k
front_at [] rest k lt = absurd (omega (arith, lt))
front_at (x ∷ xs) rest zero lt = refl
front_at (x ∷ xs) rest (suc k) lt = front_at xs rest k (omega (arith, lt))

end_at : (front rest : List ℕ) (i : ℕ) → slice_get (front ++ i ∷ rest) (length front) ≡ Some i
end_at [] rest i = refl
end_at (x ∷ xs) rest i = end_at xs rest i

-- what an order begins with has none of its numbers twice
twice : (s : Spanned) (front rest : List ℕ) (i : ℕ) → IsOrder s (front ++ i ∷ rest) → Lacks front i
twice s front rest i is k lt same =
    let order : List ℕ = front ++ i ∷ rest in
    let here : slice_get order k ≡ Some i = front_at front (i ∷ rest) k lt ∙ (slice_get-get_or front k 0 lt ∙ ap Some same) in
    let once : k ≡ length front = stands_once order (length s.events) (are_all s order is) k (length front) i here (end_at front rest i) in
    omega (arith, once, lt)

-- and has all that must precede the last of them
missed : (s : Spanned) (front rest : List ℕ) (i j : ℕ) → IsOrder s (front ++ i ∷ rest) → MustPrecede s j i → Lacks front j → ⊥
missed s front rest i j is must lacks =
    let order : List ℕ = front ++ i ∷ rest in
    let b : StandsBefore order j i = is.keeps j i must in
    let once : b.later ≡ length front = stands_once order (length s.events) (are_all s order is) b.later (length front) i b.second (end_at front rest i) in
    let before : b.place < length front = omega (arith, once, b.rises) in
    lacks b.place before (get_or_from_slice_get front b.place j 0 (sym (front_at front (i ∷ rest) b.place before) ∙ b.first))

pub none_begins_twice : (s : Spanned) (front : List ℕ) (i : ℕ) → (Lacks front i → ⊥) → NoneBegins s (front ++ i ∷ [])
none_begins_twice s front i has rest is run = has (twice s front rest i (subst (IsOrder s) (joined front rest i) is))

pub none_begins_early : (s : Spanned) (front : List ℕ) (i : ℕ) → LacksEarlier s front i → NoneBegins s (front ++ i ∷ [])
none_begins_early s front i early rest is run = missed s front rest i early.earlier (subst (IsOrder s) (joined front rest i) is) early.must early.lacks

take_front : (n : ℕ) (xs ys : List Event) → n ≤ length xs → take n (xs ++ ys) ≡ take n xs
take_front zero xs ys le = refl
take_front (suc n) [] ys le = absurd (omega (arith, le))
take_front (suc n) (x ∷ xs) ys le = ap (λ zs. x ∷ zs) (take_front n xs ys (omega (arith, le)))

-- no order with a run begins with events of which no moments witness one
pub none_begins_denied : DeniedEventsHaveNoRun → (s : Spanned) (front : List ℕ) (n : ℕ) → IsSpanned s → AreNumbers s front → IsDenied s.head (ordered s.events front) n → NoneBegins s front
none_begins_denied law s front n spanned numbers denied rest is run =
    let xs : List Event = ordered s.events front in
    let ys : List Event = ordered s.events rest in
    let parts : ordered s.events (front ++ rest) ≡ xs ++ ys = flat_map-append (λ j. option_to_list (slice_get s.events j)) front rest in
    let whole : RunBeginsWith s.head (xs ++ ys) n = begins s.head (xs ++ ys) n (subst (HasRunButMoments s.head) parts run) in
    let within : n < length xs = denied.within in
    let same = sym (ap (map without_moments) (take_front (n + 1) xs ys (omega (arith, within)))) ∙ whole.2 in
    (law s.head xs n (ordered-well s.head s.events front spanned.well) (omega (arith, length-ordered s.events front, numbers.count, spanned.count)) denied).0 (whole.0, whole.1, same)

-- none begins with as many numbers as there are events that are no order
pub none_begins_whole : (s : Spanned) (front : List ℕ) → length front ≡ length s.events → (IsOrder s front → ⊥) → NoneBegins s front
none_begins_whole s front long other [] is run = other (subst (IsOrder s) (no_end front) is)
none_begins_whole s front long other (x ∷ xs) is run = absurd (omega (arith, is.count, length-append front (x ∷ xs), long))

-- none begins with numbers that no order with a run goes on
exhausted : (s : Spanned) (front : List ℕ) (bound : ℕ) → length front < length s.events → length s.events ≤ bound → NoneBelow s front bound → NoneBegins s front
exhausted s front bound short all none [] is run = absurd (omega (arith, is.count, length-append front [], short))
exhausted s front bound short all none (x ∷ xs) is run =
    let low : x < length s.events = order_within s (front ++ x ∷ xs) is (length front) x (end_at front xs x) in
    let back = sym (joined front xs x) in
    none x (omega (arith, low, all)) xs (subst (IsOrder s) back is) (subst (λ (o : List ℕ). HasRunButMoments s.head (ordered s.events o)) back run)

pub none_left : (s : Spanned) (bound : ℕ) → 0 < length s.events → length s.events ≤ bound → AreTried s [] [] bound → HasOrderedRun s → ⊥
unfolding AreTried
none_left s bound some all tried run = exhausted s [] bound some all tried run.0 run.1 run.2

one_more : (s : Spanned) (front : List ℕ) (i : ℕ) → NoneBelow s front i → NoneBegins s (front ++ i ∷ []) → NoneBelow s front (i + 1)
one_more s front i none here k lt = elim (cases_lt k i) [
  | inl less ↦ none k less
  | inr more ↦ let same : i ≡ k = omega (arith, lt, more) in subst (λ (j : ℕ). NoneBegins s (front ++ j ∷ [])) same here
]

pub nothing_tried : (s : Spanned) → AreTried s [] [] 0
unfolding AreTried
nothing_tried s i lt = absurd (omega (arith, lt))

-- past a number that no order with a run goes on with
pub tried_past : (s : Spanned) (done is : List ℕ) (i : ℕ) → AreTried s done is i → NoneBegins s ((done ++ is) ++ i ∷ []) → AreTried s done is (i + 1)
unfolding AreTried
tried_past s done [] i tried none = one_more s done i tried (subst (λ (front : List ℕ). NoneBegins s (front ++ i ∷ [])) (no_end done) none)
tried_past s done (x ∷ xs) i tried none = (tried.0, tried_past s (done ++ x ∷ []) xs i tried.1 (subst (λ (front : List ℕ). NoneBegins s (front ++ i ∷ [])) (sym (joined done xs x)) none))

-- on with a number
pub tried_on : (s : Spanned) (done is : List ℕ) (i next : ℕ) → AreTried s done is i → NoneBelow s ((done ++ is) ++ i ∷ []) next → AreTried s done (is ++ i ∷ []) next
unfolding AreTried
tried_on s done [] i next tried none = (tried, subst (λ (front : List ℕ). NoneBelow s (front ++ i ∷ []) next) (no_end done) none)
tried_on s done (x ∷ xs) i next tried none = (tried.0, tried_on s (done ++ x ∷ []) xs i next tried.1 (subst (λ (front : List ℕ). NoneBelow s (front ++ i ∷ []) next) (sym (joined done xs x)) none))

-- back by a number and past it
pub tried_back : (s : Spanned) (done is : List ℕ) (i bound : ℕ) → length done + length is + 1 < length s.events → length s.events ≤ bound → AreTried s done (is ++ i ∷ []) bound → AreTried s done is (i + 1)
unfolding AreTried
tried_back s done [] i bound short all tried =
    one_more s done i tried.0 (exhausted s (done ++ i ∷ []) bound (omega (arith, short, length-append done (i ∷ []))) all tried.1)
tried_back s done (x ∷ xs) i bound short all tried =
    (tried.0, tried_back s (done ++ x ∷ []) xs i bound (omega (arith, short, length-append done (x ∷ []))) all tried.1)

-- the numbers that an order begins with
pub numbers_of_none : (s : Spanned) → AreNumbers s []
numbers_of_none s = record { count = omega arith; within = λ k i at. absurd (cc) }

pub numbers_of_order : (s : Spanned) (order : List ℕ) → IsOrder s order → AreNumbers s order
numbers_of_order s order is = record { count = omega (arith, is.count); within = order_within s order is }

same_number : (x y : ℕ) → Some x ≡ Some y → x ≡ y
same_number x y h = cc

pub numbers_on : (s : Spanned) (front : List ℕ) (i : ℕ) → length front < length s.events → i < length s.events → AreNumbers s front → AreNumbers s (front ++ i ∷ [])
numbers_on s front i short low numbers = record {
  count = omega (arith, length-append front (i ∷ []), short);
  within = λ k j at. elim (cases_lt k (length front)) [
    | inl less ↦ numbers.within k j (sym (front_at front (i ∷ []) k less) ∙ at)
    | inr more ↦
        let fits : k < length (front ++ i ∷ []) = slice_get_within (front ++ i ∷ []) k j at in
        let last : length front ≡ k = omega (arith, more, fits, length-append front (i ∷ [])) in
        let same : i ≡ j = same_number i j (sym (end_at front [] i) ∙ (ap (slice_get (front ++ i ∷ [])) last ∙ at)) in
        omega (arith, same, low)
  ];
}

pub numbers_back : (s : Spanned) (front : List ℕ) (i : ℕ) → AreNumbers s (front ++ i ∷ []) → AreNumbers s front
numbers_back s front i numbers = record {
  count = omega (arith, length-append front (i ∷ []), numbers.count);
  within = λ k j at. numbers.within k j (front_at front (i ∷ []) k (slice_get_within front k j at) ∙ at);
}

pub last_within : (s : Spanned) (front : List ℕ) (i : ℕ) → AreNumbers s (front ++ i ∷ []) → i < length s.events
last_within s front i numbers = numbers.within (length front) i (end_at front [] i)

pub nothing_below : (s : Spanned) (front : List ℕ) → NoneBelow s front 0
nothing_below s front i lt = absurd (omega (arith, lt))

-- where there are several orders there are events
pub some_events : (s : Spanned) → (EachPrecedesNext s → ⊥) → 0 < length s.events
some_events s several = elim (cases_lt 0 (length s.events)) [
  | inl some ↦ some
  | inr none ↦ absurd (several (λ i lt. absurd (omega (arith, lt, none))))
]
