-- What is answered of events that are judged by themselves, put together.
use Rattle.std.proofs.Common.{◌≡◌, ℕ, ◌+◌, ◌-◌, ◌*◌, ◌<◌, ◌≤◌, true, List, length, refl, ap, sym, ◌∙◌, arith, inl, inr, Option, Some, None, Result, Ok, Err, subst, get_or}
use Rattle.std.specs.Prelude.{IfSome, IfNone, IfOk, slice_get}
use Rattle.std.specs.declared.alloc.AllocError.{AllocError}
use Rattle.std.specs.Int.{div_ceil}
use Rattle.std.proofs.Math.Nat.{mul-le-mul_right}
use Rattle.std.proofs.lemmas.Grind.{div_ceil_times}
use Rattle.std.proofs.lemmas.Bool.{cases_lt}
use Rattle.pg_event.specs.declared.event.Event.{Event}
use Rattle.pg_event.specs.Heads.{Head}
use Rattle.pg_event.specs.Spelling.{Recorded}
use Rattle.pg_run_of.specs.Converse.{HasMoments}
use Rattle.pg_search.specs.Law.{names_moments}
use Rattle.pg_pool.specs.Rounds.{round}
use Rattle.pg_pool.specs.Verdicts.{AreVerdicts}
use Rattle.pg_certify.specs.Certified.{IsFound, IsUnwitnessed, IsDenied, CanBeCertified}
use Rattle.pg_certify.specs.Segments.{IsAnswer, IsBetween, IsLeastDenied, IsOfSegment}
use Rattle.pg_certify.proofs.Gathered.{gathered}
use Rattle.pg_certify.proofs.Founds.{cannot, found_can, found_good, all_found}

abbrev pub FoundAt : Head → List Event → ℕ → Type 0
FoundAt head events k = (x : Event) × IsFound head events k x

-- what was answered of all events
pub all_denied : (P : ℕ → Type 0) (head : Head) (events : List Event) (r : Option ℕ) → ((k : ℕ) → k < length events → P k) → IsLeastDenied P head events r → IfSome r (IsDenied head events)
all_denied P head events None all h = tt
all_denied P head events (Some n) all h = record {
  within = h.within;
  names = h.names;
  denied = h.denied;
  before = λ k lt.
      let w : n < length events = h.within in
      let f = h.before k lt (all k (omega (arith, lt, w))) in
      found_can head events k f.0 f.1;
}

pub all_certified : (P : ℕ → Type 0) (head : Head) (events : List Event) (r : Option ℕ) → ((k : ℕ) → k < length events → P k) → IsLeastDenied P head events r → IfNone r (CanBeCertified head events)
all_certified P head events (Some n) all h = tt
all_certified P head events None all h =
    let found = gathered HasMoments head events (length events) (λ k lt. let f = h.before k lt (all k lt) in (f.0, found_good head events k f.0 f.1)) in
    (found.0, all_found head events found.0 (length events) refl found.1)

pub denied_if_ok : (P : ℕ → Type 0) (head : Head) (events : List Event) (r : Result (Option ℕ) AllocError) → ((k : ℕ) → k < length events → P k) → IfOk r (IsLeastDenied P head events) → IfOk r (λ o. IfSome o (IsDenied head events))
denied_if_ok P head events (Ok o) all h = all_denied P head events o all h
denied_if_ok P head events (Err e) all h = tt

pub certified_if_ok : (P : ℕ → Type 0) (head : Head) (events : List Event) (r : Result (Option ℕ) AllocError) → ((k : ℕ) → k < length events → P k) → IfOk r (IsLeastDenied P head events) →
    IfOk r (λ o. IfNone o (CanBeCertified head events))
certified_if_ok P head events (Ok o) all h = all_certified P head events o all h
certified_if_ok P head events (Err e) all h = tt

-- an event for which nothing is found, where each that is meant before it was found
pub denied_here : (P : ℕ → Type 0) (h s : Recorded) (i : ℕ) (e : Event) (r : Option Event) → s ≡ h → i < length h.events → P i → slice_get h.events i ≡ Some e → r ≡ None → IfNone r (names_moments e ≡ true) →
    IfNone r (IsUnwitnessed s.head s.events i e) → ((k : ℕ) → k < i → P k → FoundAt h.head h.events k) → IsLeastDenied P h.head h.events (Some i)
denied_here P h s i e (Some x) same lt mine at none names denied before = absurd (cc)
denied_here P h s i e None same lt mine at none names denied before = record {
  within = lt;
  mine = mine;
  names = (e, at, names);
  denied = cannot h.head h.events i e at (subst (λ (q : Recorded). IsUnwitnessed q.head q.events i e) same denied);
  before = before;
}

-- where each event that is meant was found
pub none_denied : (P : ℕ → Type 0) (head : Head) (events : List Event) → ((k : ℕ) → P k → FoundAt head events k) → IsLeastDenied P head events None
none_denied P head events found = record { within = tt; mine = tt; names = tt; denied = tt; before = λ k lt mine. found k mine }

-- one event more
pub each_found : (P Q : ℕ → Type 0) (i : ℕ) → ((k : ℕ) → k < i → P k → Q k) → Q i → (k : ℕ) → k < i + 1 → P k → Q k
each_found P Q i before here k lt mine =
    elim (cases_lt k i) as (λ _. Q k) [ inl b ↦ before k b mine | inr e ↦ let same : k ≡ i = omega (arith, e, lt) in subst Q (sym same) here ]

-- the events of a segment are those between its ends, as far as there are any
pub of_segment : (head : Head) (events : List Event) (size n from to : ℕ) (r : Option ℕ) → from ≡ n * size → to ≤ from + size → ((k : ℕ) → k < from + size → k < length events → k < to) → IsLeastDenied (IsBetween from to) head events r →
    IsLeastDenied (IsOfSegment size n) head events r
of_segment head events size n from to None start end whole a = record {
  within = tt;
  mine = tt;
  names = tt;
  denied = tt;
  before = λ k lt mine.
      let m1 : n * size ≤ k = mine.0 in
      let m2 : k < n * size + size = mine.1 in
      a.before k lt (omega (arith, start, m1), whole k (omega (arith, start, m2)) lt);
}
of_segment head events size n from to (Some m) start end whole a =
    let low : from ≤ m = a.mine.0 in
    let high : m < to = a.mine.1 in
    let w : m < length events = a.within in
    record {
      within = a.within;
      mine = (omega (arith, start, low), omega (arith, start, high, end));
      names = a.names;
      denied = a.denied;
      before = λ k lt mine.
          let m1 : n * size ≤ k = mine.0 in
          let m2 : k < n * size + size = mine.1 in
          a.before k lt (omega (arith, start, m1), whole k (omega (arith, start, m2)) (omega (arith, lt, w)));
    }

pub of_segment_if_ok : (head : Head) (events : List Event) (size n from to : ℕ) (r : Result (Option ℕ) AllocError) → from ≡ n * size → to ≤ from + size → ((k : ℕ) → k < from + size → k < length events → k < to) →
    IfOk r (IsLeastDenied (IsBetween from to) head events) → IfOk r (IsLeastDenied (IsOfSegment size n) head events)
of_segment_if_ok head events size n from to (Ok r) start end whole a = of_segment head events size n from to r start end whole a
of_segment_if_ok head events size n from to (Err e) start end whole a = tt

-- each event before these segments was found
abbrev pub FoundBelow : Head → List Event → ℕ → Type 0
FoundBelow head events n = (k : ℕ) → k < length events → k < n * head.segment → FoundAt head events k

-- the answer of a segment, where each has its place
pub answer_at : (head : Head) (events : List Event) (answers : List (Option ℕ)) (i : ℕ) (r d : Option ℕ) → AreVerdicts (IsAnswer head events) (round 0 (length answers)) answers → i < length answers → get_or answers i d ≡ r → IsAnswer head events i r
answer_at head events answers i r d are lt is =
    let e : i - 0 ≡ i = omega arith in
    subst (IsAnswer head events i) (ap (λ (k : ℕ). get_or answers k d) e ∙ is) (are.each i d (omega arith, lt))

pub found_more : (head : Head) (events : List Event) (n : ℕ) → FoundBelow head events n → IsAnswer head events n None → FoundBelow head events (n + 1)
found_more head events n below answer k inside lt =
    let size : ℕ = head.segment in
    let more : (n + 1) * size ≡ n * size + size = omega arith in
    elim (cases_lt k (n * size)) as (λ _. FoundAt head events k) [
      | inl b ↦ below k inside b
      | inr e ↦ answer.before k inside (omega (arith, e), omega (arith, lt, more))
    ]

-- the first segment that has a denied event, of so many
pub first_of : (head : Head) (events : List Event) (n count m : ℕ) → n < count → FoundBelow head events n → IsAnswer head events n (Some m) → IsLeastDenied (IsBetween 0 (count * head.segment)) head events (Some m)
first_of head events n count m lt below answer =
    let size : ℕ = head.segment in
    let more : (n + 1) * size ≡ n * size + size = omega arith in
    let most : (n + 1) * size ≤ count * size = mul-le-mul_right size (omega (arith, lt)) in
    let low : n * size ≤ m = answer.mine.0 in
    let high : m < n * size + size = answer.mine.1 in
    let w : m < length events = answer.within in
    record {
      within = answer.within;
      mine = (omega arith, omega (arith, high, more, most));
      names = answer.names;
      denied = answer.denied;
      before = λ k lt mine. elim (cases_lt k (n * size)) as (λ _. FoundAt head events k) [
        | inl b ↦ below k (omega (arith, lt, w)) b
        | inr e ↦ answer.before k lt (omega (arith, e), omega (arith, lt, high))
      ];
    }

pub none_of : (head : Head) (events : List Event) (count : ℕ) → FoundBelow head events count → IsLeastDenied (IsBetween 0 (count * head.segment)) head events None
none_of head events count below = record { within = tt; mine = tt; names = tt; denied = tt; before = λ k lt mine. below k lt mine.1 }

-- what is told of all segments of a run
pub settled : (h : Recorded) (last : ℕ) (items answers : List (Option ℕ)) (r : Option ℕ) → AreVerdicts (IsAnswer h.head h.events) (round 0 last) items → answers ≡ items
    → ((head : Head) (events : List Event) → AreVerdicts (IsAnswer head events) (round 0 (length answers)) answers → IsLeastDenied (IsBetween 0 (length answers * head.segment)) head events r)
    → IsLeastDenied (IsBetween 0 (last * h.head.segment)) h.head h.events r
settled h last items answers r are is least =
    let size : length answers ≡ last = omega (arith, are.len, ap (λ (l : List (Option ℕ)). length l) is) in
    let here : AreVerdicts (IsAnswer h.head h.events) (round 0 last) answers = subst (λ (l : List (Option ℕ)). AreVerdicts (IsAnswer h.head h.events) (round 0 last) l) (sym is) are in
    let all : AreVerdicts (IsAnswer h.head h.events) (round 0 (length answers)) answers = subst (λ (n : ℕ). AreVerdicts (IsAnswer h.head h.events) (round 0 n) answers) (sym size) here in
    subst (λ (n : ℕ). IsLeastDenied (IsBetween 0 (n * h.head.segment)) h.head h.events r) size (least h.head h.events all)

-- each event is of one of its segments
pub covers : (h : Recorded) (last : ℕ) → 0 < h.head.segment → last ≡ div_ceil (length h.events) h.head.segment → (k : ℕ) → k < length h.events → IsBetween 0 (last * h.head.segment) k
covers h last some is k lt =
    let enough : length h.events ≤ last * h.head.segment = subst (λ (n : ℕ). length h.events ≤ n * h.head.segment) (sym is) (div_ceil_times (length h.events) h.head.segment some).0 in
    (omega arith, omega (arith, lt, enough))
