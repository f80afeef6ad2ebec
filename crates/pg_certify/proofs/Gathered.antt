-- Events that were witnessed one by one are accepted together.
use Rattle.std.proofs.Common.{◌≡◌, ℕ, zero, suc, ◌+◌, ◌<◌, ◌≤◌, List, [], ◌∷◌, ◌++◌, length, refl, ap, sym, ◌∙◌, subst, arith, Option, Some, None, take, map}
use Rattle.std.specs.Prelude.{slice_get}
use Rattle.std.specs.List.{AllByRecursion}
use Rattle.std.proofs.lemmas.List.{length-take, length-map, map-append}
use Rattle.pg_event.specs.declared.event.Event.{Event}
use Rattle.pg_event.specs.declared.event.Reason.{Reason}
use Rattle.pg_event.specs.Heads.{Head}
use Rattle.pg_event.specs.Witness.{failing_event, first_some, first_bad_from}
use Rattle.pg_run_of.specs.Converse.{without_moments}

-- it is event i but for the moments, which witness it, and it is as asked
pub record Good (Q : Event → Type 0) (head : Head) (events : List Event) (i : ℕ) (x : Event) : Type 0 where
  pub event : Event
  pub there : slice_get events i ≡ Some event
  pub same : without_moments x ≡ without_moments event
  pub fits : Q x
  pub good : failing_event head events i x ≡ None

-- these are the first events but for their moments, each witnessed and as asked
pub record UpTo (Q : Event → Type 0) (head : Head) (events : List Event) (i : ℕ) (found : List Event) : Type 0 where
  pub same : map without_moments found ≡ map without_moments (take i events)
  pub fits : AllByRecursion Q found
  pub good : first_bad_from head events 0 found ≡ None

take_there : (xs : List Event) (i : ℕ) (e : Event) → slice_get xs i ≡ Some e → take (suc i) xs ≡ take i xs ++ e ∷ []
take_there [] i e h = absurd (cc)
take_there (x ∷ xs) zero e h = let same : x ≡ e = cc in first xs same
  where
    first : (ys : List Event) → x ≡ e → take 1 (x ∷ ys) ≡ e ∷ []
    first [] same = ap (λ y. y ∷ []) same
    first (y ∷ ys) same = ap (λ y. y ∷ []) same
take_there (x ∷ xs) (suc i) e h = ap (λ ys. x ∷ ys) (take_there xs i e h)

pub there_within : (xs : List Event) (i : ℕ) (e : Event) → slice_get xs i ≡ Some e → i < length xs
there_within [] i e h = absurd (cc)
there_within (x ∷ xs) zero e h = omega arith
there_within (x ∷ xs) (suc i) e h = omega (arith, there_within xs i e h)

all_push : (Q : Event → Type 0) (xs : List Event) (x : Event) → AllByRecursion Q xs → Q x → AllByRecursion Q (xs ++ x ∷ [])
all_push Q [] x h k = (k, tt)
all_push Q (y ∷ ys) x h k = (h.0, all_push Q ys x h.1 k)

none_after : (i : ℕ) (a : Option Reason) (b : Option (ℕ × Reason)) → a ≡ None → b ≡ None → first_some i a b ≡ None
none_after i None b h k = k
none_after i (Some r) b h k = absurd (cc)

none_before : (i : ℕ) (a : Option Reason) (b : Option (ℕ × Reason)) → first_some i a b ≡ None → (a ≡ None) × (b ≡ None)
none_before i None b h = (refl, h)
none_before i (Some r) b h = absurd (cc)

good_push : (head : Head) (all : List Event) (w : ℕ) (xs : List Event) (x : Event) → first_bad_from head all w xs ≡ None → failing_event head all (w + length xs) x ≡ None →
    first_bad_from head all w (xs ++ x ∷ []) ≡ None
good_push head all w [] x h k =
    let n : w + 0 ≡ w = omega arith in
    none_after w (failing_event head all w x) None (subst (λ j. failing_event head all j x ≡ None) n k) refl
good_push head all w (y ∷ ys) x h k =
    let both = none_before w (failing_event head all w y) (first_bad_from head all (w + 1) ys) h in
    let n : w + length (y ∷ ys) ≡ w + 1 + length ys = omega arith in
    none_after w (failing_event head all w y) (first_bad_from head all (w + 1) (ys ++ x ∷ [])) both.0
    (good_push head all (w + 1) ys x both.1 (subst (λ j. failing_event head all j x ≡ None) n k))

-- so many are found
pub found_count : (Q : Event → Type 0) (head : Head) (events : List Event) (i : ℕ) (found : List Event) → i ≤ length events → UpTo Q head events i found → length found ≡ i
found_count Q head events i found low h =
    let count : length found ≡ length (take i events) = sym (length-map found without_moments) ∙ ap length h.same ∙ length-map (take i events) without_moments in
    omega (arith, count, low, length-take i events)

pub none_yet : (Q : Event → Type 0) (head : Head) (events : List Event) → UpTo Q head events 0 []
none_yet Q head events = record { same = nothing events; fits = tt; good = refl }
  where
    nothing : (es : List Event) → (let none : List Event = [] in map without_moments none) ≡ map without_moments (take 0 es)
    nothing [] = refl
    nothing (e ∷ es) = refl

-- one more
pub one_more : (Q : Event → Type 0) (head : Head) (events : List Event) (i : ℕ) (found : List Event) (x : Event) → UpTo Q head events i found → Good Q head events i x →
    UpTo Q head events (i + 1) (found ++ x ∷ [])
one_more Q head events i found x h g =
    let within : i < length events = there_within events i g.event g.there in
    let count : length found ≡ i = found_count Q head events i found (omega (arith, within)) h in
    let n : i ≡ 0 + length found = omega (arith, count) in
    let next : i + 1 ≡ suc i = omega arith in
    let more : take (i + 1) events ≡ take i events ++ g.event ∷ [] = ap (λ n. take n events) next ∙ take_there events i g.event g.there in
    record {
      same = map-append without_moments found (x ∷ []) ∙ ap (λ ys. ys ++ without_moments x ∷ []) h.same ∙ ap (λ y. map without_moments (take i events) ++ y ∷ []) g.same
          ∙ sym (map-append without_moments (take i events) (g.event ∷ [])) ∙ ap (map without_moments) (sym more);
      fits = all_push Q found x h.fits g.fits;
      good = good_push head events 0 found x h.good (subst (λ j. failing_event head events j x ≡ None) n g.good);
    }

-- all of them
pub gathered : (Q : Event → Type 0) (head : Head) (events : List Event) (i : ℕ) → ((k : ℕ) → k < i → (x : Event) × Good Q head events k x) →
    (found : List Event) × UpTo Q head events i found
gathered Q head events zero each = ([], none_yet Q head events)
gathered Q head events (suc i) each =
    let before = gathered Q head events i (λ k lt. each k (omega (arith, lt))) in
    let last = each i (omega arith) in
    let n : i + 1 ≡ suc i = omega arith in
    (before.0 ++ last.0 ∷ [], subst (λ j. UpTo Q head events j (before.0 ++ last.0 ∷ [])) n (one_more Q head events i before.0 last.0 before.1 last.1))
