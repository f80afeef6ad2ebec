-- The bad events of a run, one by one.
use Rattle.std.proofs.Common.{◌≡◌, ℕ, zero, suc, ◌+◌, ◌-◌, ◌<◌, ◌≤◌, List, [], ◌∷◌, length, take, drop, get_or, Option, Some, None, refl, sym, ap, ◌∙◌, arith, length-drop, inl, inr}
use Rattle.std.specs.Prelude.{slice_get, option_and_then}
use Rattle.std.specs.List.{AllByRecursion, Contains}
use Rattle.std.proofs.lemmas.Bool.{cases_lt}
use Rattle.std.proofs.lemmas.List.{take_rest}
use Rattle.std.proofs.lemmas.List.Elements.{All-from_recursion, All-get_or, All-contains, Contains-append_right}
use Rattle.std.proofs.lemmas.Option.{same_Some, slice_get_within}
use Rattle.pg_event.specs.declared.event.Event.{Event}
use Rattle.pg_event.specs.declared.event.Reason.{Reason}
use Rattle.pg_event.specs.Heads.{Head}
use Rattle.pg_event.specs.Witness.{failing, failing_event, first_some, first_bad_from, first_bad}
use Rattle.pg_explain.specs.declared.bad_events.Bad.{Bad}
use Rattle.pg_explain.specs.Bads.{bad_of, with_bad, bads_from, bads, IsBad, BadsAreExact}

-- ---- none before the first

with_none : (n : ℕ) (e : Event) (o : Option Reason) (rest : Option (ℕ × Reason)) (others : List Bad) → (rest ≡ None → others ≡ []) → first_some n o rest ≡ None → with_bad n e o others ≡ []
with_none n e None rest others none h = none h
with_none n e (Some reason) rest others none h = cc

none_from : (head : Head) (events : List Event) (n : ℕ) (es : List Event) → first_bad_from head events n es ≡ None → bads_from head events n es ≡ []
none_from head events n [] h = refl
none_from head events n (e ∷ es) h =
    with_none n e (failing_event head events n e) (first_bad_from head events (n + 1) es) (bads_from head events (n + 1) es) (none_from head events (n + 1) es) h

pub no_bads : (head : Head) (events : List Event) → first_bad head events ≡ None → bads head events ≡ []
no_bads head events h = none_from head events 0 events h

-- of these events, from number n on, the one with this number is the first bad one
record BeginAt (head : Head) (events : List Event) (n : ℕ) (es : List Event) (at : ℕ) : Type 0 where
  low : n ≤ at
  within : at - n < length es
  bads : bads_from head events n es ≡ bads_from head events at (drop (at - n) es)

begin_here : (head : Head) (events : List Event) (n : ℕ) (e : Event) (es : List Event) (at : ℕ) → n ≡ at → BeginAt head events n (e ∷ es) at
begin_here head events n e es at same =
    let none : 0 ≡ at - n = omega (arith, same) in
    record {
      low = omega (arith, same);
      within = omega (arith, same);
      bads = ap (λ k. bads_from head events k (e ∷ es)) same ∙ ap (λ k. bads_from head events at (drop k (e ∷ es))) none;
    }

begin_later : (head : Head) (events : List Event) (n : ℕ) (e : Event) (es : List Event) (at : ℕ) → failing_event head events n e ≡ None → BeginAt head events (n + 1) es at → BeginAt head events n (e ∷ es) at
begin_later head events n e es at good h =
    let low = h.low in
    let within = h.within in
    let next : suc (at - (n + 1)) ≡ at - n = omega (arith, low) in
    record {
      low = omega (arith, low);
      within = omega (arith, low, within);
      bads = ap (λ o. with_bad n e o (bads_from head events (n + 1) es)) good ∙ (h.bads ∙ ap (λ k. bads_from head events at (drop k (e ∷ es))) next);
    }

begin_by : (head : Head) (events : List Event) (n : ℕ) (e : Event) (es : List Event) (at : ℕ) (reason : Reason) (o : Option Reason) → failing_event head events n e ≡ o →
    first_some n o (first_bad_from head events (n + 1) es) ≡ Some (at, reason) → (first_bad_from head events (n + 1) es ≡ Some (at, reason) → BeginAt head events (n + 1) es at) → BeginAt head events n (e ∷ es) at
begin_by head events n e es at reason None is h later = begin_later head events n e es at is (later h)
begin_by head events n e es at reason (Some r) is h later =
    begin_here head events n e es at (ap (λ (x : ℕ × Reason). x.0) (same_Some (n, r) (at, reason) h))

begins : (head : Head) (events : List Event) (n : ℕ) (es : List Event) (at : ℕ) (reason : Reason) → first_bad_from head events n es ≡ Some (at, reason) → BeginAt head events n es at
begins head events n [] at reason h = absurd cc
begins head events n (e ∷ es) at reason h =
    begin_by head events n e es at reason (failing_event head events n e) refl h (begins head events (n + 1) es at reason)

pub first_within : (head : Head) (events : List Event) (at : ℕ) (reason : Reason) → first_bad head events ≡ Some (at, reason) → at ≤ length events
first_within head events at reason h = let within = (begins head events 0 events at reason h).within in omega (arith, within)

pub bads_begin : (head : Head) (events : List Event) (at : ℕ) (reason : Reason) → first_bad head events ≡ Some (at, reason) → bads head events ≡ bads_from head events at (drop at events)
bads_begin head events at reason h =
    let all : at - 0 ≡ at = omega arith in
    (begins head events 0 events at reason h).bads ∙ ap (λ k. bads_from head events at (drop k events)) all

pub all_dropped : (P : Event → Type 0) (n : ℕ) (es : List Event) → AllByRecursion P es → AllByRecursion P (drop n es)
all_dropped P zero es all = all
all_dropped P (suc n) [] all = tt
all_dropped P (suc n) (e ∷ es) all = all_dropped P n es all.1

-- a list from one of its places on
drop_head : {A : Type 0} (xs : List A) (n : ℕ) (x : A) (rest : List A) → x ∷ rest ≡ drop n xs → (slice_get xs n ≡ Some x) × (rest ≡ drop (n + 1) xs)
drop_head [] zero x rest e = absurd cc
drop_head [] (suc n) x rest e = absurd cc
drop_head (y ∷ ys) zero x rest e = (cc, cc)
drop_head (y ∷ ys) (suc n) x rest e =
    let below : (slice_get ys n ≡ Some x) × (rest ≡ drop (n + 1) ys) = drop_head ys n x rest e in
    let more : suc (n + 1) ≡ suc n + 1 = omega arith in
    (below.0, below.1 ∙ ap (λ k. drop k (y ∷ ys)) more)

-- some events from one of their places on
pub rest_of : (all es : List Event) (n : ℕ) → es ≡ all → take (length es - n) (drop n es) ≡ drop n all
rest_of all es n same = take_rest es n ∙ ap (drop n) same

-- ---- each of them is bad

with_bad_all : (head : Head) (events : List Event) (n : ℕ) (e : Event) (o : Option Reason) (others : List Bad) → failing_event head events n e ≡ o → slice_get events n ≡ Some e →
    AllByRecursion (IsBad head events) others → AllByRecursion (IsBad head events) (with_bad n e o others)
with_bad_all head events n e None others is at all = all
with_bad_all head events n e (Some reason) others is at all = (ap (option_and_then (failing_event head events n)) at ∙ is, all)

from_are_bad : (head : Head) (events : List Event) (n : ℕ) (es : List Event) → es ≡ drop n events → AllByRecursion (IsBad head events) (bads_from head events n es)
from_are_bad head events n [] from = tt
from_are_bad head events n (e ∷ es) from =
    let parts = drop_head events n e es from in
    with_bad_all head events n e (failing_event head events n e) (bads_from head events (n + 1) es) refl parts.0
    (from_are_bad head events (n + 1) es parts.1)

pub all_are_bad : (head : Head) (events : List Event) → AllByRecursion (IsBad head events) (bads head events)
all_are_bad head events = from_are_bad head events 0 events refl

pub first_are_bad : (head : Head) (events : List Event) (xs : List Bad) (n : ℕ) → AllByRecursion (IsBad head events) xs → AllByRecursion (IsBad head events) (take n xs)
first_are_bad head events xs zero all = tt
first_are_bad head events [] (suc n) all = tt
first_are_bad head events (x ∷ xs) (suc n) all = (all.0, first_are_bad head events xs n all.1)

pub bad_within : (head : Head) (events : List Event) (i : ℕ) (reason : Reason) → failing head events i ≡ Some reason → i < length events
bad_within head events i reason f = by_place (slice_get events i) refl f
  where
    by_place : (o : Option Event) → slice_get events i ≡ o → option_and_then (failing_event head events i) o ≡ Some reason → i < length events
    by_place None at g = absurd cc
    by_place (Some e) at g = slice_get_within events i e at

-- one of them
pub bad_at : (head : Head) (events : List Event) (bs : List Bad) (i : ℕ) (d : Bad) → i < length bs → AllByRecursion (IsBad head events) bs → IsBad head events (get_or bs i d)
bad_at head events bs i d lt all = All-get_or (IsBad head events) bs i d lt (All-from_recursion (IsBad head events) bs all)

pub bad_fails : (head : Head) (events : List Event) (i : ℕ) (reason : Reason) → failing head events i ≡ Some reason → failing head events i ≡ None → ⊥
bad_fails head events i reason f good = absurd cc

-- ---- and there is no other

here : (head : Head) (events : List Event) (i : ℕ) (e : Event) (o : Option Reason) (others : List Bad) (reason : Reason) → o ≡ Some reason → (x : Bad) × Contains (with_bad i e o others) x × (x.number ≡ i) × (x.reason ≡ reason)
here head events i e None others reason is = absurd cc
here head events i e (Some r) others reason is = (bad_of i e r, (0, omega arith, refl), refl, cc)

later : (n : ℕ) (e : Event) (o : Option Reason) (others : List Bad) (x : Bad) → Contains others x → Contains (with_bad n e o others) x
later n e None others x c = c
later n e (Some r) others x c = Contains-append_right (bad_of n e r ∷ []) others x c

listed_from : (head : Head) (events : List Event) (n : ℕ) (es : List Event) (i : ℕ) (reason : Reason) → es ≡ drop n events → n ≤ i → failing head events i ≡ Some reason →
    (x : Bad) × Contains (bads_from head events n es) x × (x.number ≡ i) × (x.reason ≡ reason)
listed_from head events n [] i reason from le f =
    let within : i < length events = bad_within head events i reason f in
    let none : 0 ≡ length (drop n events) = ap length from in
    absurd (omega (arith, none, length-drop n events, within, le))
listed_from head events n (e ∷ es) i reason from le f =
    let parts = drop_head events n e es from in
    let others = bads_from head events (n + 1) es in
    elim (cases_lt n i) [
      | inl below ↦
          let at_least : n + 1 ≤ i = omega (arith, below) in
          let found = listed_from head events (n + 1) es i reason parts.1 at_least f in
          (found.0, later n e (failing_event head events n e) others found.0 found.1, found.2, found.3)
      | inr above ↦
          let same : n ≡ i = omega (arith, above, le) in
          let is : failing_event head events n e ≡ Some reason =
          sym (ap (option_and_then (failing_event head events n)) parts.0) ∙ (ap (failing head events) same ∙ f) in
          let found = here head events n e (failing_event head events n e) others reason is in
          (found.0, found.1, found.2 ∙ same, found.3)
    ]

pub bads_exact : BadsAreExact
bads_exact head events i reason = (
  λ f. listed_from head events 0 events i reason refl (omega arith) f,
  λ h.
      let bad : failing head events h.0.number ≡ Some h.0.reason =
      All-contains (IsBad head events) (bads head events) h.0
      (All-from_recursion (IsBad head events) (bads head events) (all_are_bad head events)) h.1 in
      ap (failing head events) (sym h.2) ∙ (bad ∙ ap (λ (r : Reason). Some r) h.3),
)
