-- The first bad event of a window, from the verdicts of its segments.
use Rattle.std.proofs.Common.{All, Contains, ◌≡◌, inl, inr, ⊎_elim, ◌⊎◌, ℕ, zero, suc, ◌+◌, ◌-◌, ◌*◌, ◌/◌, ◌%◌, ◌≤◌, ◌<◌, ◌==◌, Bool, true, false, cond, List, [], ◌∷◌, ◌++◌, length, length-append, map, take, drop, get_or, Option, Some, None, Ok, Err, sym, refl, ap, ◌∙◌, subst, arith, min}
use Rattle.std.specs.Int.{div_ceil}
use Rattle.std.specs.List.{range_with_len}
use Rattle.std.specs.Option.{option_or}
use Rattle.std.proofs.Math.Nat.{mod-add-div'}
use Rattle.std.proofs.Math.Seq.{drop-append_seam}
use Rattle.std.proofs.lemmas.Bool.Decides.{nat_tests}
use Rattle.std.proofs.lemmas.Grind.{div_ceil_times}
use Rattle.std.proofs.lemmas.List.{take-append-drop}
use Rattle.std.proofs.lemmas.List.Sums.{sum_by-cons}
use Rattle.std.proofs.lemmas.List.FromFn.{get_or-map-range_with_len, length-map-range_with_len}
use Rattle.pg_event.specs.declared.event.Event.{Event}
use Rattle.pg_event.specs.declared.event.Reason.{Reason}
use Rattle.pg_event.specs.Heads.{Head}
use Rattle.pg_event.specs.Spelling.{Recorded}
use Rattle.pg_event.specs.Witness.{first_bad_from}
use Rattle.pg_check.specs.declared.stretch.SegmentVerdict.{SegmentVerdict}
use Rattle.pg_check.specs.Segments.{first_bad_of_segment, segment_verdict}
use Rattle.pg_check.proofs.Firsts.{first_bad_from-both}
use Rattle.pg_pool.specs.declared.round.Round.{Round}
use Rattle.pg_pool.specs.Rounds.{IsIn, numbers}
use Rattle.std.proofs.Math.Decide.{ℕ_discrete}
use Rattle.std.proofs.Math.Nat.{mul-le-mul_right}
use Rattle.pg_check.specs.declared.stretch.Stretch.{Stretch}
use Rattle.pg_check.specs.Stretches.{HasSegments, IsStretch}
use Rattle.pg_check.specs.Judging.{Findings, Awaits}
use Rattle.pg_report.specs.declared.error.MergeError.{MergeError}
use Rattle.pg_report.specs.declared.error.MergeError.TheVariants as errors
use Rattle.pg_report.specs.Judging.{BeginsSegment, waiting_round}
use Rattle.pg_report.specs.Text.{verdict_of}
use Rattle.pg_report.specs.Merging.{Merges, IsFirstBad, IsStranger, times_judged}

drop-all : {A : Type 0} (n : ℕ) (xs : List A) → length xs ≤ n → drop n xs ≡ []
drop-all zero [] h = refl
drop-all zero (x ∷ xs) h = absurd (omega arith)
drop-all (suc n) [] h = refl
drop-all (suc n) (x ∷ xs) h = drop-all n xs (omega (arith, h))

drop-drop : {A : Type 0} (n m : ℕ) (xs : List A) → drop m (drop n xs) ≡ drop (n + m) xs
drop-drop zero m xs = let e : m ≡ 0 + m = omega arith in ap (λ (k : ℕ). drop k xs) e
drop-drop (suc n) m [] = drop-all m [] (omega arith) ∙ sym (drop-all (suc n + m) [] (omega arith))
drop-drop (suc n) m (x ∷ xs) =
    let e : suc (n + m) ≡ suc n + m = omega arith in
    drop-drop n m xs ∙ ap (λ (k : ℕ). drop k (x ∷ xs)) e

length-take-all : {A : Type 0} (n : ℕ) (xs : List A) → n ≤ length xs → length (take n xs) ≡ n
length-take-all zero xs h = refl
length-take-all (suc n) [] h = absurd (omega arith)
length-take-all (suc n) (x ∷ xs) h = ap suc (length-take-all n xs (omega (arith, h)))

module _ (r : Recorded) where
  bad_from_segment : ℕ → Option (ℕ × Reason)
  bad_from_segment k = first_bad_from r.head r.events (k * r.head.segment) (drop (k * r.head.segment) r.events)

  -- from a segment on: its first bad event, or else that of the segments behind it
  one_more : (k : ℕ) → bad_from_segment k ≡ option_or (first_bad_of_segment r k) (bad_from_segment (k + 1))
  unfolding bad_from_segment
  one_more k =
      let seg = r.head.segment in
      let here = drop (k * seg) r.events in
      let next : (k + 1) * seg ≡ k * seg + seg = omega arith in
      let rest : drop seg here ≡ drop ((k + 1) * seg) r.events = drop-drop (k * seg) seg r.events ∙ ap (λ (n : ℕ). drop n r.events) (sym next) in
      ap (λ (es : List Event). first_bad_from r.head r.events (k * seg) es) (sym (take-append-drop seg here))
      ∙ first_bad_from-both r.head r.events (take seg here) (drop seg here) (k * seg)
      ∙ ap (option_or (first_bad_of_segment r k)) (ap (λ (es : List Event). first_bad_from r.head r.events (k * seg + length (take seg here)) es) rest ∙ behind (cases seg (length here)))
    where
      cases : (a b : ℕ) → (a ≤ b) ⊎ (b < a)
      cases a b = grind arith

      behind : (r.head.segment ≤ length (drop (k * r.head.segment) r.events)) ⊎ (length (drop (k * r.head.segment) r.events) < r.head.segment) →
          first_bad_from r.head r.events (k * r.head.segment + length (take r.head.segment (drop (k * r.head.segment) r.events))) (drop ((k + 1) * r.head.segment) r.events)
          ≡ first_bad_from r.head r.events ((k + 1) * r.head.segment) (drop ((k + 1) * r.head.segment) r.events)
      behind (inl full) =
          let seg = r.head.segment in
          let at : k * seg + length (take seg (drop (k * seg) r.events)) ≡ (k + 1) * seg = ap (λ (n : ℕ). k * seg + n) (length-take-all seg (drop (k * seg) r.events) full) ∙ omega arith in
          ap (λ (n : ℕ). first_bad_from r.head r.events n (drop ((k + 1) * seg) r.events)) at
      behind (inr less) =
          let seg = r.head.segment in
          let next : (k + 1) * seg ≡ k * seg + seg = omega arith in
          let none : drop ((k + 1) * seg) r.events ≡ [] = ap (λ (n : ℕ). drop n r.events) next ∙ sym (drop-drop (k * seg) seg r.events) ∙ drop-all seg (drop (k * seg) r.events) (omega (arith, less)) in
          ap (λ (es : List Event). first_bad_from r.head r.events (k * seg + length (take seg (drop (k * seg) r.events))) es) none
          ∙ sym (ap (λ (es : List Event). first_bad_from r.head r.events ((k + 1) * seg) es) none)

  -- segments without a bad event
  skips : (n k : ℕ) → ((j : ℕ) → k ≤ j → j < k + n → first_bad_of_segment r j ≡ None) → bad_from_segment k ≡ bad_from_segment (k + n)
  skips zero k h = ap bad_from_segment (omega arith)
  skips (suc n) k h =
      one_more k ∙ ap (λ (o : Option (ℕ × Reason)). option_or o (bad_from_segment (k + 1))) (h k (omega arith) (omega arith))
      ∙ skips n (k + 1) (λ j low high. h j (omega (arith, low)) (omega (arith, high))) ∙ ap bad_from_segment (omega arith)

  -- behind the last segment nothing is left
  none_behind : (last : ℕ) → length r.events ≤ last * r.head.segment → bad_from_segment last ≡ None
  unfolding bad_from_segment
  none_behind last le = ap (first_bad_from r.head r.events (last * r.head.segment)) (drop-all (last * r.head.segment) r.events le)

  module _ (first n : ℕ) (verdicts : List SegmentVerdict) (are : verdicts ≡ map (segment_verdict r) (range_with_len first n)) where
    count_is : length verdicts ≡ n
    count_is = ap length are ∙ length-map-range_with_len (segment_verdict r) first n

    verdict_at : (k : ℕ) (d : SegmentVerdict) → k < n → get_or verdicts k d ≡ segment_verdict r (first + k)
    verdict_at k d less = ap (λ (l : List SegmentVerdict). get_or l k d) are ∙ get_or-map-range_with_len (segment_verdict r) first n k (first + k) d less refl

    -- what holds of all verdicts holds of each segment's
    at_each : (P : SegmentVerdict → Type 0) → All P verdicts → (j : ℕ) → first ≤ j → j < first + n → P (segment_verdict r j)
    at_each P all j low high =
        let k = j - first in
        let less : k < n = omega (arith, low, high) in
        let d = segment_verdict r j in
        subst P (verdict_at k d less ∙ ap (segment_verdict r) (omega (arith, low))) (all k d (omega (arith, less, count_is)))

    good_all : All (λ v. v.first_bad ≡ None) verdicts → length r.events ≤ (first + n) * r.head.segment → bad_from_segment first ≡ None
    good_all all le = skips n first (λ j low high. at_each (λ v. v.first_bad ≡ None) all j low high) ∙ none_behind (first + n) le

    bad_first : (bad : ℕ × Reason) → IsFirstBad verdicts bad → bad_from_segment first ≡ Some bad
    bad_first bad (v, lowest, is) = go lowest.there
      where
        go : Contains verdicts v → bad_from_segment first ≡ Some bad
        go (k, less, at) =
            let inside : k < n = omega (arith, less, count_is) in
            let same : v ≡ segment_verdict r (first + k) = sym at ∙ verdict_at k v inside in
            let number : v.number ≡ first + k = ap (λ (u : SegmentVerdict). u.number) same in
            let here : first_bad_of_segment r (first + k) ≡ Some bad = sym (ap (λ (u : SegmentVerdict). u.first_bad) same) ∙ is in
            skips k first (λ j low high.
            ⊎_elim (λ none. none) (λ le. absurd (omega (arith, le, number, high)))
            (at_each (λ u. (u.first_bad ≡ None) ⊎ (v.number ≤ u.number)) lowest.lowest j low (omega (arith, high, inside))))
            ∙ one_more (first + k)
            ∙ ap (λ (o : Option (ℕ × Reason)). option_or o (bad_from_segment (first + k + 1))) here

-- ---- the events that wait

le_of_times : (x y c len seg : ℕ) → c + len ≤ y * seg → x * seg < c + seg → x ≤ y
le_of_times x y c len seg low high = go (cases x y)
  where
    cases : (a b : ℕ) → (a ≤ b) ⊎ (b < a)
    cases a b = grind arith

    go : (x ≤ y) ⊎ (y < x) → x ≤ y
    go (inl le) = le
    go (inr less) =
        let more : (y + 1) * seg ≤ x * seg = mul-le-mul_right seg (omega (arith, less)) in
        let parts : (y + 1) * seg ≡ y * seg + seg = omega arith in
        absurd (omega (arith, more, parts, low, high))

module _ (f : Findings) (head : Head) (before more : List Event) (a : Awaits f head before more) (sized : 0 < head.segment) where
  whole_run : Recorded
  whole_run = record { head = head; events = before ++ more }

  size_is : f.head.segment ≡ head.segment
  size_is = ap (λ (h : Head). h.segment) a.settings

  count_all : f.count + length more ≡ length (before ++ more)
  count_all = ap (λ (n : ℕ). n + length more) a.count ∙ sym (length-append before more)

  first_covers : f.count ≤ (waiting_round f more).first * f.head.segment
  first_covers = (div_ceil_times f.count f.head.segment (subst (λ (n : ℕ). 0 < n) (sym size_is) sized)).0

  last_covers : f.count + length more ≤ (waiting_round f more).last * f.head.segment
  last_covers = (div_ceil_times (f.count + length more) f.head.segment (subst (λ (n : ℕ). 0 < n) (sym size_is) sized)).0

  pub waiting_ordered : (waiting_round f more).first ≤ (waiting_round f more).last
  waiting_ordered =
      le_of_times (waiting_round f more).first (waiting_round f more).last f.count (length more) f.head.segment last_covers
      (div_ceil_times f.count f.head.segment (subst (λ (n : ℕ). 0 < n) (sym size_is) sized)).1

  pub waiting_segments : (s : Stretch) → IsStretch s (record { head = head; events = before ++ more }) → s.first ≡ f.count → HasSegments s (waiting_round f more).first (waiting_round f more).last
  waiting_segments s is first = record {
    of = record { head = head; events = before ++ more };
    stretch = is;
    starts = subst (λ (n : ℕ). s.first ≤ (waiting_round f more).first * n) (size_is ∙ sym is.segment) (subst (λ (n : ℕ). n ≤ (waiting_round f more).first * f.head.segment) (sym first) first_covers);
    ordered = waiting_ordered;
    within = subst (λ (n : ℕ). (waiting_round f more).last ≤ n) ((λ i. div_ceil (count_all i) (size_is i))) (omega arith);
  }

  -- the first of the segments begins where the events begin
  begins_at : f.count % f.head.segment ≡ 0 → (waiting_round f more).first * head.segment ≡ length before
  begins_at whole =
      let c = f.count in
      let seg = f.head.segment in
      let quotient : (waiting_round f more).first ≡ c / seg = ap (λ (n : ℕ). c / seg + min 1 n) whole ∙ omega arith in
      let parts : c % seg + c / seg * seg ≡ c = mod-add-div' c seg in
      ap (λ (n : ℕ). (waiting_round f more).first * n) (sym size_is) ∙ ap (λ (n : ℕ). n * seg) quotient ∙ omega (arith, parts, whole) ∙ a.count

  module _ (verdicts : List SegmentVerdict) (are : verdicts ≡ map (segment_verdict (record { head = head; events = before ++ more })) (numbers (waiting_round f more))) where
    from_first : f.count % f.head.segment ≡ 0 → bad_from_segment (record { head = head; events = before ++ more }) (waiting_round f more).first ≡ first_bad_from head (before ++ more) (length before) more
    unfolding bad_from_segment
    from_first whole =
        ap (λ (n : ℕ). first_bad_from head (before ++ more) n (drop n (before ++ more))) (begins_at whole)
        ∙ ap (first_bad_from head (before ++ more) (length before)) (drop-append_seam before more)

    all_covered : length (before ++ more) ≤ ((waiting_round f more).first + ((waiting_round f more).last - (waiting_round f more).first)) * head.segment
    all_covered =
        let r = waiting_round f more in
        let same : r.first + (r.last - r.first) ≡ r.last = omega (arith, waiting_ordered) in
        subst (λ (n : ℕ). length (before ++ more) ≤ n * head.segment) (sym same) (subst (λ (n : ℕ). length (before ++ more) ≤ r.last * n) size_is (subst (λ (n : ℕ). n ≤ r.last * f.head.segment) count_all last_covers))

    none_wait : more ≡ [] → verdicts ≡ []
    none_wait none =
        let r = waiting_round f more in
        let same : r.last ≡ r.first = ap (λ (es : List Event). div_ceil (f.count + length es) f.head.segment) none ∙ ap (λ (n : ℕ). div_ceil n f.head.segment) (omega arith) in
        let no_number : r.last - r.first ≡ 0 = omega (arith, same) in
        are ∙ ap (λ (n : ℕ). map (segment_verdict (record { head = head; events = before ++ more })) (range_with_len r.first n)) no_number

    -- what the verdicts of the waiting segments come to
    pub first_found : (bad : Option (ℕ × Reason)) → BeginsSegment f more → Merges (waiting_round f more) verdicts (Ok (verdict_of bad)) → bad ≡ first_bad_from head (before ++ more) (length before) more
    first_found None (inl none) m = sym (ap (first_bad_from head (before ++ more) (length before)) none)
    first_found (Some bad) (inl none) (each, (v, lowest, is)) = absurd (nothing lowest.there)
      where
        nothing : Contains verdicts v → ⊥
        nothing (k, less, at) = omega (arith, less, ap length (none_wait none))
    first_found None (inr whole) (each, all) =
        let r = waiting_round f more in
        sym (sym (from_first whole) ∙ good_all (record { head = head; events = before ++ more }) r.first (r.last - r.first) verdicts are all all_covered)
    first_found (Some bad) (inr whole) (each, is) =
        let r = waiting_round f more in
        sym (sym (from_first whole) ∙ bad_first (record { head = head; events = before ++ more }) r.first (r.last - r.first) verdicts are bad is)

-- ---- a round's verdicts are one for each of its segments

module _ (r : Recorded) where
  counts_none : (n len a : ℕ) → n < a → times_judged n (map (segment_verdict r) (range_with_len a len)) ≡ 0
  counts_none n zero a h = refl
  counts_none n (suc len) a h =
      let apart : (a == n) ≡ false = grind (arith, nat_tests) in
      let rest = map (segment_verdict r) (range_with_len (a + 1) len) in
      let here : cond {A = ℕ} (a == n) 1 0 ≡ 0 = ap (λ (b : Bool). cond {A = ℕ} b 1 0) apart in
      omega (arith, sum_by-cons (λ (v : SegmentVerdict). cond (v.number == n) 1 0) (segment_verdict r a) rest, here, counts_none n len (a + 1) (omega (arith, h)))

  counts_one : (n len a : ℕ) → a ≤ n → n < a + len → times_judged n (map (segment_verdict r) (range_with_len a len)) ≡ 1
  counts_one n zero a low high = absurd (omega arith)
  counts_one n (suc len) a low high =
      let rest = map (segment_verdict r) (range_with_len (a + 1) len) in
      let parts = sum_by-cons (λ (v : SegmentVerdict). cond (v.number == n) 1 0) (segment_verdict r a) rest in
      elim (ℕ_discrete a n) [
        | yes e ↦
            let same : (a == n) ≡ true = grind (arith, nat_tests) in
            let here : cond {A = ℕ} (a == n) 1 0 ≡ 1 = ap (λ (b : Bool). cond {A = ℕ} b 1 0) same in
            omega (arith, parts, here, counts_none n len (a + 1) (omega (arith, e)))
        | no apart ↦
            let other : (a == n) ≡ false = grind (arith, nat_tests) in
            let here : cond {A = ℕ} (a == n) 1 0 ≡ 0 = ap (λ (b : Bool). cond {A = ℕ} b 1 0) other in
            omega (arith, parts, here, counts_one n len (a + 1) (omega (arith, low, apart)) (omega (arith, high)))
      ]

  module _ (round : Round) (ordered : round.first ≤ round.last) (verdicts : List SegmentVerdict) (are : verdicts ≡ map (segment_verdict r) (numbers round)) where
    pub once_each : (n : ℕ) → IsIn round n → times_judged n verdicts ≡ 1
    once_each n within = ap (times_judged n) are ∙ counts_one n (round.last - round.first) round.first within.0 (omega (arith, within.1, ordered))

    pub no_stranger : (v : SegmentVerdict) → IsStranger round verdicts v → ⊥
    no_stranger v s = go s.there
      where
        go : Contains verdicts v → ⊥
        go (k, less, at) =
            let n = round.last - round.first in
            let inside : k < n = omega (arith, less, count_is r round.first n verdicts are) in
            let number : v.number ≡ round.first + k = ap (λ (u : SegmentVerdict). u.number) (sym at ∙ verdict_at r round.first n verdicts are k v inside) in
            s.outside (omega (arith, number), omega (arith, number, inside))

    pub merges : (e : MergeError) → Merges round verdicts (Err e) → e ≡ errors.Memory
    merges (errors.Double n) m = absurd (omega (arith, once_each n m.is.0, m.is.1))
    merges (errors.Stranger n) m = absurd (no_stranger m.1.0 m.1.1)
    merges (errors.Missing n) m = absurd (omega (arith, once_each n m.2.is.0, m.2.is.1))
    merges errors.Memory m = refl
