-- Segments and the end mark that are read after a run are spelled so, and what is spelled so is
-- read again.
use Rattle.std.proofs.Common.{◌≡◌, ℕ, zero, suc, ◌+◌, ◌-◌, ◌^◌, ◌<◌, ◌≤◌, min, Bool, true, false, cond, leb, ltb, eqb, ◌&&◌, ◌||◌, List, [], ◌∷◌, ◌++◌, length, take, drop, Ok, Err, refl, sym, ap, subst, ◌∙◌, append_assoc, take-append-drop, arith, ◌⊎◌, inl, inr}
use Rattle.std.specs.List.{flat_map}
use Rattle.std.specs.Int.{w32, to_le_bytes}
use Rattle.std.proofs.lemmas.Bool.{and_parts, or_cases, ltb-true, leb-true, eqb-true, lt-ltb, le-leb, eq-eqb, cases_lt, cases_Bool, false≢true}
use Rattle.std.proofs.lemmas.List.{length-take, length-drop, length-append, take_at, drop_at, take_all, drop_all, append-nil}
use Rattle.pg_event.specs.declared.refusal.Refusal.TheVariants as refusals
use Rattle.pg_event.specs.Heads.{Head}
use Rattle.pg_event.specs.Spelling.{end_bytes}
use Rattle.pg_event.specs.Reading.{◌>>=◌, byte_at, number_at}
use Rattle.pg_event.proofs.Fields.{IsBytes, Takes, Takes-then, passing_again, byte_takes, wide32, number_takes, number_again}
use Rattle.pg_span_run.specs.Orders.{Spanned}
use Rattle.pg_span_run.specs.declared.refusal.SpannedRefusal.TheVariants.{Plain}
use Rattle.pg_span_run.specs.Spelling.{Timed, timed_bytes, timed_segment_bytes, timed_segments_bytes}
use Rattle.pg_span_run.specs.Reading.{SpannedPart, next_segment_at, total_at, was_full, next_segments_at}
use Rattle.pg_span_run.proofs.Binds.{bind_on, bind_from, plain_on, field_from, value_is}
use Rattle.pg_span_run.proofs.Runs.{grown, grown_none, grown_twice, grown_count, AreTimed, timed_cut, timed_joined, events_again, TakesEvents, events_take}

-- ---- one segment

pub record IsSegment (head : Head) (number before : ℕ) (xs : List Timed) : Type 0 where
  pub numbered : number < 2 ^ 32
  pub some : 1 ≤ length xs
  pub few : length xs ≤ head.segment
  pub count : before + length xs < 2 ^ 32
  pub are : AreTimed head before xs

abbrev counted : Head → ℕ → ℕ → Bool
counted head before n = leb 1 n && leb n head.segment && ltb (before + n) (2 ^ 32)

is_counted : (head : Head) (before n : ℕ) → 1 ≤ n → n ≤ head.segment → before + n < 2 ^ 32 → counted head before n ≡ true
is_counted head before n a b c = rw (le-leb _ _ a, le-leb _ _ b, lt-ltb _ _ c) refl

counts : (head : Head) (before n : ℕ) → counted head before n ≡ true → (1 ≤ n) × (n ≤ head.segment) × (before + n < 2 ^ 32)
counts head before n h =
    let p = and_parts (leb 1 n && leb n head.segment) (ltb (before + n) (2 ^ 32)) h in
    let q = and_parts (leb 1 n) (leb n head.segment) p.0 in
    (leb-true _ _ q.0, leb-true _ _ q.1, ltb-true _ _ p.1)

segment_again : (s : Spanned) (number : ℕ) (xs : List Timed) (rest : List ℕ) → IsSegment s.head number (length s.events) xs
    → next_segment_at s number (to_le_bytes w32 number ++ to_le_bytes w32 (length xs) ++ (flat_map (timed_bytes s.head.version) xs ++ rest)) ≡ Ok (grown s xs, rest)
unfolding next_segment_at
segment_again s number xs rest is =
    let n : ℕ = length xs in
    let before : ℕ = length s.events in
    let after : List ℕ = flat_map (timed_bytes s.head.version) xs ++ rest in
    bind_on _ _ _ (plain_on _ _ (passing_again (λ k. eqb k number) refusals.SegmentNumber _ _ (number_again w32 (2 ^ 32) wide32 number (to_le_bytes w32 n ++ after) is.numbered) (eq-eqb number number refl)))
    ∙ (bind_on _ _ _ (plain_on _ _ (passing_again (counted s.head before) refusals.SegmentCount _ _ (number_again w32 (2 ^ 32) wide32 n after (omega (arith, is.count))) (is_counted s.head before n is.some is.few is.count)))
    ∙ events_again xs s rest is.are)

record TakesSegment (s : Spanned) (number : ℕ) (bytes : List ℕ) (y : Spanned × List ℕ) : Type 0 where
  xs : List Timed
  takes : Takes (1 ∷ bytes) (timed_segment_bytes s.head.version number xs) y.1
  is : IsSegment s.head number (length s.events) xs
  made : grown s xs ≡ y.0

segment_takes : (s : Spanned) (number : ℕ) (bytes : List ℕ) (y : Spanned × List ℕ) → IsBytes bytes → next_segment_at s number bytes ≡ Ok y → TakesSegment s number bytes y
unfolding next_segment_at
segment_takes s number bytes y fits e =
    field_from (λ n. eqb n number) refusals.SegmentNumber (number_at w32 bytes) _ y e (λ a a_is same e.
    field_from (counted s.head (length s.events)) refusals.SegmentCount (number_at w32 a.1) _ y e (λ b b_is count e.
    let t0 = number_takes w32 (2 ^ 32) wide32 bytes a fits a_is in
    let t1 = number_takes w32 (2 ^ 32) wide32 a.1 b t0.0.rest_fits b_is in
    let t2 : TakesEvents s b.0 b.1 y = events_take b.0 s b.1 y t1.0.rest_fits e in
    let xs : List Timed = t2.xs in
    let flat : List ℕ = flat_map (timed_bytes s.head.version) xs in
    let c = counts s.head (length s.events) b.0 count in
    let number_is : a.0 ≡ number = eqb-true _ _ same in
    let length_is : b.0 ≡ length xs = sym t2.count in
    let e1 = Takes-then a.1 (to_le_bytes w32 b.0) b.1 flat y.1 t1.0 t2.takes in
    let e0 = Takes-then bytes (to_le_bytes w32 a.0) a.1 (to_le_bytes w32 b.0 ++ flat) y.1 t0.0 e1 in
    let first : Takes bytes (to_le_bytes w32 number ++ to_le_bytes w32 b.0 ++ flat) y.1 = subst (λ (n : ℕ). Takes bytes (to_le_bytes w32 n ++ to_le_bytes w32 b.0 ++ flat) y.1) number_is e0 in
    let second : Takes bytes (to_le_bytes w32 number ++ to_le_bytes w32 (length xs) ++ flat) y.1 = subst (λ (n : ℕ). Takes bytes (to_le_bytes w32 number ++ to_le_bytes w32 n ++ flat) y.1) length_is first in
    record {
      xs = xs;
      takes = record { parts = ap (λ (w : List ℕ). 1 ∷ w) second.parts; rest_fits = second.rest_fits };
      is = record {
        numbered = subst (λ (n : ℕ). n < 2 ^ 32) number_is t0.1;
        some = subst (λ (n : ℕ). 1 ≤ n) length_is c.0;
        few = subst (λ (n : ℕ). n ≤ s.head.segment) length_is c.1;
        count = subst (λ (n : ℕ). length s.events + n < 2 ^ 32) length_is c.2;
        are = t2.are;
      };
      made = t2.made;
    }))

-- ---- the end mark

total_again : (s : Spanned) (rest : List ℕ) → length s.events < 2 ^ 32 → total_at s (to_le_bytes w32 (length s.events) ++ rest) ≡ Ok (s, rest)
unfolding total_at
total_again s rest lt =
    bind_on _ _ _ (plain_on _ _ (passing_again (λ n. eqb n (length s.events)) refusals.Total _ _ (number_again w32 (2 ^ 32) wide32 (length s.events) rest lt) (eq-eqb (length s.events) (length s.events) refl)))

record TakesTotal (s : Spanned) (bytes : List ℕ) (y : Spanned × List ℕ) : Type 0 where
  takes : Takes (2 ∷ bytes) (end_bytes (length s.events)) y.1
  count : length s.events < 2 ^ 32
  made : s ≡ y.0

total_takes : (s : Spanned) (bytes : List ℕ) (y : Spanned × List ℕ) → IsBytes bytes → total_at s bytes ≡ Ok y → TakesTotal s bytes y
unfolding total_at
total_takes s bytes y fits e =
    field_from (λ n. eqb n (length s.events)) refusals.Total (number_at w32 bytes) _ y e (λ a a_is same e.
    let t = number_takes w32 (2 ^ 32) wide32 bytes a fits a_is in
    let is : a.0 ≡ length s.events = eqb-true _ _ same in
    let whole : 2 ∷ bytes ≡ end_bytes (length s.events) ++ a.1 = ap (λ (w : List ℕ). 2 ∷ w) t.0.parts ∙ ap (λ (n : ℕ). end_bytes n ++ a.1) is in
    subst (TakesTotal s bytes) (value_is (s, a.1) y e)
    (record { takes = record { parts = whole; rest_fits = t.0.rest_fits }; count = subst (λ (n : ℕ). n < 2 ^ 32) is t.1; made = refl }))

-- ---- segments up to the end mark

-- how many segments are spelled
abbrev pub segments_count : ℕ → ℕ → List Timed → ℕ
segments_count size n [] = 0
segments_count size zero xs = 0
segments_count size (suc n) xs = suc (segments_count size n (drop size xs))

-- each segment has a byte at least
pub segments_count_le : (head : Head) (number n : ℕ) (xs : List Timed) → segments_count head.segment n xs ≤ length (timed_segments_bytes head number n xs)
segments_count_le head number n [] = omega arith
segments_count_le head number zero (x ∷ xs) = omega arith
segments_count_le head number (suc n) (x ∷ xs) =
    let size : ℕ = head.segment in
    let others = segments_count_le head (number + 1) n (drop size (x ∷ xs)) in
    let joined : length (timed_segments_bytes head number (suc n) (x ∷ xs)) ≡ length (timed_segment_bytes head.version number (take size (x ∷ xs))) + length (timed_segments_bytes head (number + 1) n (drop size (x ∷ xs))) =
    length-append (timed_segment_bytes head.version number (take size (x ∷ xs))) (timed_segments_bytes head (number + 1) n (drop size (x ∷ xs))) in
    omega arith

-- events that segments spell, from a number on and after a run
pub record AreSegments (s : Spanned) (number : ℕ) (xs : List Timed) : Type 0 where
  pub size : 1 ≤ s.head.segment
  pub order : number ≤ length s.events
  pub count : length s.events + length xs < 2 ^ 32
  pub are : AreTimed s.head (length s.events) xs

-- the first segment of events, and whether another may follow
record Cut (s : Spanned) (number n : ℕ) (xs : List Timed) : Type 0 where
  first : IsSegment s.head number (length s.events) (take s.head.segment xs)
  others : AreSegments (grown s (take s.head.segment xs)) (number + 1) (drop s.head.segment xs)
  shorter : length (drop s.head.segment xs) ≤ n
  total : length (grown s (take s.head.segment xs)).events + length (drop s.head.segment xs) ≡ length s.events + length xs
  full : (was_full s (grown s (take s.head.segment xs)) ≡ true) ⊎ (drop s.head.segment xs ≡ [])

cut : (s : Spanned) (number n : ℕ) (xs : List Timed) → AreSegments s number xs → 1 ≤ length xs → length xs ≤ suc n → Cut s number n xs
cut s number n xs is some few =
    let size : ℕ = s.head.segment in
    let before : ℕ = length s.events in
    let one : 1 ≤ size = is.size in
    let order : number ≤ before = is.order in
    let count : before + length xs < 2 ^ 32 = is.count in
    let front : length (take size xs) ≡ min size (length xs) = length-take size xs in
    let back : length (drop size xs) ≡ length xs - size = length-drop size xs in
    let made : length (grown s (take size xs)).events ≡ before + length (take size xs) = grown_count s (take size xs) in
    let are = timed_cut s.head before (take size xs) (drop size xs) (subst (AreTimed s.head before) (sym (take-append-drop size xs)) is.are) in
    record {
      first = record { numbered = omega arith; some = omega arith; few = omega arith; count = omega arith; are = are.0 };
      others = record { size = one; order = omega arith; count = omega arith; are = subst (λ (k : ℕ). AreTimed s.head k (drop size xs)) (sym made) are.1 };
      shorter = omega arith;
      total = omega arith;
      full = elim (cases_lt (length xs) size) [
        | inl lt ↦ inr (drop_all size xs (omega arith))
        | inr le ↦ inl (eq-eqb _ _ (omega arith))
      ];
    }

pub segments_again : (n bound : ℕ) (s : Spanned) (number : ℕ) (full : Bool) (xs : List Timed) (rest : List ℕ) → AreSegments s number xs → length xs ≤ n
    → segments_count s.head.segment n xs < bound → (full ≡ true) ⊎ (xs ≡ [])
    → next_segments_at bound s number full (timed_segments_bytes s.head number n xs ++ (end_bytes (length s.events + length xs) ++ rest)) ≡ Ok (grown s xs, rest)
unfolding next_segments_at
segments_again n zero s number full xs rest is few fuel goes_on = absurd (omega arith)
segments_again n (suc bound) s number full [] rest is few fuel goes_on =
    let same : length s.events + 0 ≡ length s.events = omega arith in
    let lt : length s.events < 2 ^ 32 = omega (arith, is.count) in
    ap (λ (k : ℕ). next_segments_at (suc bound) s number full (end_bytes k ++ rest)) same ∙ total_again s rest lt ∙ ap (λ (t : Spanned). Ok (t, rest)) (sym (grown_none s))
segments_again zero (suc bound) s number full (x ∷ xs) rest is few fuel goes_on = absurd (omega arith)
segments_again (suc n) (suc bound) s number full (x ∷ xs) rest is few fuel (inr none) = absurd cc
segments_again (suc n) (suc bound) s number full (x ∷ xs) rest is few fuel (inl can) =
    let all : List Timed = x ∷ xs in
    let size : ℕ = s.head.segment in
    let front : List Timed = take size all in
    let back : List Timed = drop size all in
    let t : Spanned = grown s front in
    let c : Cut s number n all = cut s number n all is (omega arith) few in
    let segment : List ℕ = timed_segment_bytes s.head.version number front in
    let segments : List ℕ = timed_segments_bytes s.head (number + 1) n back in
    let end : List ℕ = end_bytes (length s.events + length all) ++ rest in
    let after : List ℕ = segments ++ end in
    let others : next_segments_at bound t (number + 1) (was_full s t) after ≡ Ok (grown t back, rest) =
    ap (λ (k : ℕ). next_segments_at bound t (number + 1) (was_full s t) (segments ++ (end_bytes k ++ rest))) (sym c.total)
    ∙ segments_again n bound t (number + 1) (was_full s t) back rest c.others c.shorter (omega arith) c.full in
    let read : next_segment_at s number (to_le_bytes w32 number ++ to_le_bytes w32 (length front) ++ (flat_map (timed_bytes s.head.version) front ++ after)) ≡ Ok (t, after) = segment_again s number front after c.first in
    ap (next_segments_at (suc bound) s number full) (append_assoc segment segments end)
    ∙ (ap (λ (b : Bool). next_segments_at (suc bound) s number b (segment ++ after)) can
    ∙ (bind_on _ _ _ read
    ∙ (others
    ∙ (ap (λ (r : Spanned). Ok (r, rest)) (grown_twice s front back)
    ∙ ap (λ (ys : List Timed). Ok (grown s ys, rest)) (take-append-drop size all)))))

-- a first segment that is full, or the last, and the others
joined_take : (size : ℕ) (front back : List Timed) → length front ≤ size → (length front ≡ size) ⊎ (back ≡ []) → take size (front ++ back) ≡ front
joined_take size front back few (inl full) = take_at front back size full
joined_take size front back few (inr none) = ap (λ (xs : List Timed). take size (front ++ xs)) none ∙ ap (take size) (append-nil front) ∙ take_all size front few

joined_drop : (size : ℕ) (front back : List Timed) → length front ≤ size → (length front ≡ size) ⊎ (back ≡ []) → drop size (front ++ back) ≡ back
joined_drop size front back few (inl full) = drop_at front back size full
joined_drop size front back few (inr none) = ap (λ (xs : List Timed). drop size (front ++ xs)) none ∙ ap (drop size) (append-nil front) ∙ drop_all size front few ∙ sym none

segments_step : (head : Head) (number n : ℕ) (front back : List Timed) → 1 ≤ length front → length front ≤ head.segment → (length front ≡ head.segment) ⊎ (back ≡ []) → length (front ++ back) ≤ n
    → (k : ℕ) × (length back ≤ k) × (timed_segments_bytes head number n (front ++ back) ≡ timed_segment_bytes head.version number front ++ timed_segments_bytes head (number + 1) k back)
segments_step head number n [] back some few either le = absurd (omega arith)
segments_step head number zero (x ∷ xs) back some few either le = absurd (omega arith)
segments_step head number (suc n) (x ∷ xs) back some few either le =
    let size : ℕ = head.segment in
    let front : List Timed = x ∷ xs in
    let total : length (front ++ back) ≡ length front + length back = length-append front back in (
      n,
      omega arith,
      ap (λ (ys : List Timed). timed_segment_bytes head.version number ys ++ timed_segments_bytes head (number + 1) n (drop size (front ++ back))) (joined_take size front back few either)
          ∙ ap (λ (ys : List Timed). timed_segment_bytes head.version number front ++ timed_segments_bytes head (number + 1) n ys) (joined_drop size front back few either),
    )

pub record TakesSegments (s : Spanned) (number : ℕ) (full : Bool) (bytes : List ℕ) (y : Spanned × List ℕ) : Type 0 where
  pub xs : List Timed
  pub spelled : (n : ℕ) → length xs ≤ n → Takes bytes (timed_segments_bytes s.head number n xs ++ end_bytes (length s.events + length xs)) y.1
  pub count : length s.events + length xs < 2 ^ 32
  pub are : AreTimed s.head (length s.events) xs
  pub ended : full ≡ false → xs ≡ []
  pub made : grown s xs ≡ y.0

at_end : (s : Spanned) (number : ℕ) (full : Bool) (bytes : List ℕ) (y : Spanned × List ℕ) → TakesTotal s bytes y → TakesSegments s number full (2 ∷ bytes) y
at_end s number full bytes y is =
    let same : length s.events ≡ length s.events + 0 = omega arith in
    record {
      xs = [];
      spelled = λ n le. subst (λ (k : ℕ). Takes (2 ∷ bytes) (end_bytes k) y.1) same is.takes;
      count = omega (arith, is.count);
      are = tt;
      ended = λ h. refl;
      made = grown_none s ∙ is.made;
    }

behind : (s : Spanned) (number : ℕ) (bytes middle : List ℕ) (y : Spanned × List ℕ) (front : List Timed) → Takes (1 ∷ bytes) (timed_segment_bytes s.head.version number front) middle
    → IsSegment s.head number (length s.events) front → TakesSegments (grown s front) (number + 1) (was_full s (grown s front)) middle y → TakesSegments s number true (1 ∷ bytes) y
behind s number bytes middle y front first is second =
    let others : List Timed = second.xs in
    let before : ℕ = length s.events in
    let made : length (grown s front).events ≡ before + length front = grown_count s front in
    let total : before + length (front ++ others) ≡ length (grown s front).events + length others = omega (arith, length-append front others) in
    let either : (length front ≡ s.head.segment) ⊎ (others ≡ []) =
    elim (cases_Bool (was_full s (grown s front))) [
      | inl is_full ↦ inl (omega (arith, eqb-true _ _ is_full))
      | inr is_short ↦ inr (second.ended is_short)
    ] in
    record {
      xs = front ++ others;
      spelled = λ n le.
          let step = segments_step s.head number n front others is.some is.few either le in
          let segment : List ℕ = timed_segment_bytes s.head.version number front in
          let segments : List ℕ = timed_segments_bytes s.head (number + 1) step.0 others in
          let end : List ℕ = end_bytes (length (grown s front).events + length others) in
          let both = Takes-then (1 ∷ bytes) segment middle (segments ++ end) y.1 first (second.spelled step.0 step.1) in
          let regrouped : segment ++ (segments ++ end) ≡ timed_segments_bytes s.head number n (front ++ others) ++ end_bytes (before + length (front ++ others)) =
          sym (append_assoc segment segments end)
          ∙ ap (λ (w : List ℕ). w ++ end) (sym step.2)
          ∙ ap (λ (k : ℕ). timed_segments_bytes s.head number n (front ++ others) ++ end_bytes k) (sym total) in
          subst (λ (w : List ℕ). Takes (1 ∷ bytes) w y.1) regrouped both;
      count = subst (λ (k : ℕ). k < 2 ^ 32) (sym total) second.count;
      are = timed_joined s.head before front others is.are (subst (λ (k : ℕ). AreTimed s.head k others) made second.are);
      ended = λ h. absurd (false≢true (sym h));
      made = sym (grown_twice s front others) ∙ second.made;
    }

abbrev pub TakesAll : ℕ → Type 0
TakesAll bound = (s : Spanned) (number : ℕ) (full : Bool) (bytes : List ℕ) (y : Spanned × List ℕ) → IsBytes bytes → next_segments_at bound s number full bytes ≡ Ok y → TakesSegments s number full bytes y

abbrev after_segment : ℕ → Spanned → ℕ → Spanned × List ℕ → SpannedPart Spanned
after_segment bound s number more = next_segments_at bound more.0 (number + 1) (was_full s more.0) more.1

segment_first : (bound : ℕ) (s : Spanned) (number : ℕ) (full : Bool) (bytes : List ℕ) (y : Spanned × List ℕ) → IsBytes bytes → TakesAll bound
    → cond full (next_segment_at s number bytes >>= after_segment bound s number) (Err (Plain refusals.SegmentCount)) ≡ Ok y → TakesSegments s number full (1 ∷ bytes) y
segment_first bound s number false bytes y fits all e = absurd cc
segment_first bound s number true bytes y fits all e =
    bind_from (next_segment_at s number bytes) (after_segment bound s number) y e (λ a a_is e.
    let first = segment_takes s number bytes a fits a_is in
    let second : TakesSegments a.0 (number + 1) (was_full s a.0) a.1 y = all a.0 (number + 1) (was_full s a.0) a.1 y first.takes.rest_fits e in
    behind s number bytes a.1 y first.xs first.takes first.is (subst (λ (t : Spanned). TakesSegments t (number + 1) (was_full s t) a.1 y) (sym first.made) second))

not_three : (n : ℕ) → (eqb (suc (suc (suc n))) 1 || eqb (suc (suc (suc n))) 2) ≡ true → ⊥
not_three n h =
    elim (or_cases (eqb (suc (suc (suc n))) 1) (eqb (suc (suc (suc n))) 2) h) [
      | inl a ↦ omega (arith, eqb-true _ _ a)
      | inr b ↦ omega (arith, eqb-true _ _ b)
    ]

tagged : (bound : ℕ) (s : Spanned) (number : ℕ) (full : Bool) (tag : ℕ) (bytes : List ℕ) (y : Spanned × List ℕ) → IsBytes bytes → TakesAll bound → (eqb tag 1 || eqb tag 2) ≡ true
    → cond (eqb tag 2) (total_at s bytes) (cond full (next_segment_at s number bytes >>= after_segment bound s number) (Err (Plain refusals.SegmentCount))) ≡ Ok y
    → TakesSegments s number full (tag ∷ bytes) y
tagged bound s number full zero bytes y fits all one e = absurd cc
tagged bound s number full (suc zero) bytes y fits all one e = segment_first bound s number full bytes y fits all e
tagged bound s number full (suc (suc zero)) bytes y fits all one e = at_end s number full bytes y (total_takes s bytes y fits e)
tagged bound s number full (suc (suc (suc n))) bytes y fits all one e = absurd (not_three n one)

pub segments_take : (bound : ℕ) → TakesAll bound
unfolding next_segments_at
segments_take zero s number full bytes y fits e = absurd cc
segments_take (suc bound) s number full bytes y fits e =
    field_from (λ t. eqb t 1 || eqb t 2) refusals.Tag (byte_at bytes) _ y e (λ a a_is tag e.
    let t = byte_takes bytes a fits a_is in
    let k = tagged bound s number full a.0 a.1 y t.0.rest_fits (segments_take bound) tag e in
    subst (λ (w : List ℕ). TakesSegments s number full w y) (sym t.0.parts) k)
