-- The marks of a seat follow what it takes.
use Rattle.std.proofs.Common.{Option, Some, None, MatchOption, All, ◌≡◌, ℕ, suc, ◌+◌, ◌-◌, ◌≤◌, ◌<◌, ◌==◌, ◌||◌, Bool, true, false, nat_lt, List, [], ◌∷◌, ◌++◌, length, set, get_or, slice_index_or, replicate, sym, refl, ap, ◌∙◌, subst, arith}
use Rattle.std.proofs.lemmas.Bool.Decides.{nat_tests}
use Rattle.std.proofs.lemmas.Grind.{get_or-set_at}
use Rattle.std.proofs.lemmas.List.{map-set, length-set, get_or-map, length-map, get_or-set_other, get_or-replicate, length-replicate}
use Rattle.std.proofs.lemmas.List.Elements.{All-set, All-append, All-cons, All-nil, All-head, All-tail, All-weaker}
use Rattle.std.proofs.lemmas.List.Sums.{sum_by-set, sum_by-cons, sum_by-append, get_or-le-sum_by}
use Rattle.std.proofs.Math.Decide.{ℕ_discrete}
use Rattle.std.proofs.Math.Seq.{map-set_same}
use Rattle.crossbeam_deque.specs.Handles.{view, stealer_deque}
use Rattle.pg_pool.specs.declared.deque_view.DequeView.{DequeView}
use Rattle.pg_pool.specs.declared.round.Round.{Round}
use Rattle.pg_pool.specs.declared.other_deque.OtherDeque.{OtherDeque}
use Rattle.pg_pool.specs.Rounds.{IsIn}
use Rattle.pg_pool.specs.DequeRule.{times, Took}
use Rattle.pg_pool.specs.Seats.{DequeId, Part, part_of, no_part, part_at, times_taken, times_pushed, with_taken, TookPushed, TookFrom, IsDeal, IsSeat}
use Rattle.pg_pool.specs.Ways.{reached, reached_part}
use Rattle.pg_pool.proofs.Times.{times-append, times-same, times-other, some_more}

pub reached-same : (ts : List OtherDeque) (k : ℕ) (t u : OtherDeque) → t ≡ get_or ts k t → stealer_deque u.reach ≡ stealer_deque t.reach → view u.token ≡ view t.token → reached (set ts k u) ≡ reached ts
reached-same ts k t u read deque same = map-set_same reached_part ts k u t ((λ i. part_of (deque i).0 (same i)) ∙ ap reached_part read)

-- what a pop or a steal tells, of the part
part_took : (id was : DequeId) (old new : DequeView) (n : ℕ) → id ≡ was → Took old (n ∷ []) new → (part_of id new ≡ with_taken (part_of was old) n) × TookPushed (with_taken (part_of was old) n)
part_took id was old new n same took =
    let e : part_of id new ≡ with_taken (part_of was old) n = λ i. part_of (same i) (took.0 i) in
    (e, λ m. subst (λ (d : Part). times m d.taken ≤ times m d.pushed) e (took.1 m))

pub reached-took : (ts : List OtherDeque) (k : ℕ) (t u : OtherDeque) (n : ℕ) → k < length ts → t ≡ get_or ts k t → stealer_deque u.reach ≡ stealer_deque t.reach → Took (view t.token) (n ∷ []) (view u.token)
    → TookFrom (reached ts) n (reached (set ts k u))
reached-took ts k t u n inside read same took =
    let there : reached_part t ≡ part_at (reached ts) k = ap reached_part read ∙ sym (get_or-map reached_part ts k t no_part inside) in
    let p = part_took (stealer_deque u.reach).0 (stealer_deque t.reach).0 (view t.token) (view u.token) n (λ i. (same i).0) took in record {
      place = k;
      inside = omega (arith, inside, length-map {A = OtherDeque} {B = Part});
      pushed = subst (λ (d : Part). TookPushed (with_taken d n)) there p.1;
      new_is = map-set reached_part ts k u ∙ ap (set (reached ts) k) (p.0 ∙ ap (λ (d : Part). with_taken d n) there);
    }

pub took_own : (id was : DequeId) (old new : DequeView) (rest : List Part) (n : ℕ) → id ≡ was → Took old (n ∷ []) new → TookFrom (part_of was old ∷ rest) n (part_of id new ∷ rest)
took_own id was old new rest n same took =
    let p = part_took id was old new n same took in record {
      place = 0;
      inside = omega arith;
      pushed = p.1;
      new_is = ap (λ (d : Part). d ∷ rest) p.0;
    }

took_other : (d : Part) (old new : List Part) (n : ℕ) → TookFrom old n new → TookFrom (d ∷ old) n (d ∷ new)
took_other d old new n t = record { place = suc t.place; inside = omega (arith, t.inside); pushed = t.pushed; new_is = ap (λ (l : List Part). d ∷ l) t.new_is }

pub found_other : (d e : Part) (old new : List Part) (r : Option ℕ) → e ≡ d → MatchOption r (new ≡ old) (λ n. TookFrom old n new)
    → MatchOption r (e ∷ new ≡ d ∷ old) (λ n. TookFrom (d ∷ old) n (e ∷ new))
found_other d e old new None same is = λ i. same i ∷ is i
found_other d e old new (Some n) same t =
    subst (λ (u : Part). TookFrom (d ∷ old) n (u ∷ new)) (sym same) (took_other d old new n t)

-- no number is taken more often than it is pushed, over all deques
times_taken-le : (n : ℕ) (parts : List Part) → All TookPushed parts → times_taken n parts ≤ times_pushed n parts
times_taken-le n [] all = omega arith
times_taken-le n (d ∷ ds) all =
    omega (arith, sum_by-cons (λ (e : Part). times n e.taken) d ds, sum_by-cons (λ (e : Part). times n e.pushed) d ds, All-head TookPushed d ds all n, times_taken-le n ds (All-tail TookPushed d ds all))

module _ (old new : List Part) (n : ℕ) (t : TookFrom old n new) where
  pub times_taken-took : (m : ℕ) → times_taken m new ≡ times_taken m old + times m (n ∷ [])
  times_taken-took m =
      let d = part_at old t.place in
      omega (arith, ap (times_taken m) t.new_is, sum_by-set (λ (e : Part). times m e.taken) old t.place (with_taken d n) no_part t.inside, times-append m d.taken (n ∷ []))

  pub times_pushed-took : (m : ℕ) → times_pushed m new ≡ times_pushed m old
  times_pushed-took m =
      let d = part_at old t.place in
      omega (arith, ap (times_pushed m) t.new_is, sum_by-set (λ (e : Part). times m e.pushed) old t.place (with_taken d n) no_part t.inside)

  pub was_pushed : 0 < times_pushed n old
  was_pushed =
      let d = part_at old t.place in
      omega (arith, t.pushed n, times-append n d.taken (n ∷ []), times-same n, get_or-le-sum_by (λ (e : Part). times n e.pushed) old t.place no_part t.inside)

  pub all_took : All TookPushed old → All TookPushed new
  all_took all =
      subst (λ (l : List Part). All TookPushed l) (sym t.new_is) (All-set TookPushed old t.place (with_taken (part_at old t.place) n) t.pushed all)

  pub none_before : ((m : ℕ) → times_pushed m old ≤ 1) → All TookPushed old → times_taken n old ≡ 0
  none_before once all =
      omega (arith, times_taken-le n new (all_took all), times_taken-took n, times_pushed-took n, times-same n, once n)

  pub fresh : ((m : ℕ) → times_pushed m old ≤ 1) → All TookPushed old → nat_lt 0 (times_taken n old) ≡ false
  fresh once all = ap (nat_lt 0) (none_before once all)

  pub marked : (m : ℕ) → nat_lt 0 (times_taken m new) ≡ (nat_lt 0 (times_taken m old) || m == n)
  marked m = some_more m n (times_taken m old) (times_taken m new) (times_taken-took m)

  pub deal : (r : Round) → IsDeal r old → IsDeal r new
  deal r d = record {
    within = λ m h. d.within m (subst (λ (k : ℕ). 0 < k) (times_pushed-took m) h);
    once = λ m. omega (arith, d.once m, times_pushed-took m);
  }

positive : (n : ℕ) → 0 < n → true ≡ nat_lt 0 n
positive n h = grind (arith, nat_tests)

pub IsSeat-took : (r : Round) (marks : List Bool) (old new : List Part) (n : ℕ) → IsSeat r marks old → TookFrom old n new → IsSeat r (set marks (n - r.first) true) new
IsSeat-took r marks old new n s t = record {
  ordered = s.ordered;
  count = omega (arith, s.count, length-set marks (n - r.first) true);
  marked = here;
  deal = deal old new n t r s.deal;
  took = all_took old new n t s.took;
}
  where
    here : (i : ℕ) → i < length (set marks (n - r.first) true) → slice_index_or (set marks (n - r.first) true) i false ≡ nat_lt 0 (times_taken (r.first + i) new)
    here i less =
        let same : length (set marks (n - r.first) true) ≡ length marks = length-set marks (n - r.first) true in
        let low : r.first ≤ n = (s.deal.within n (was_pushed old new n t)).0 in
        let high : n < r.last = (s.deal.within n (was_pushed old new n t)).1 in
        let n_in : n - r.first < length marks = omega (arith, low, high, s.count) in
        elim (ℕ_discrete (r.first + i) n) [
          | yes e ↦
              let more : 0 < times_taken (r.first + i) new = omega (arith, times_taken-took old new n t (r.first + i), ap (λ (k : ℕ). times k (n ∷ [])) e, times-same n) in
              get_or-set_at marks (n - r.first) i true false (omega arith) n_in ∙ positive _ more
          | no apart ↦
              get_or-set_other marks (n - r.first) i true false (λ e. apart (omega arith)) ∙ s.marked i (subst (λ (k : ℕ). i < k) same less)
              ∙ ap (nat_lt 0) (omega (arith, times_taken-took old new n t (r.first + i), times-other (r.first + i) n apart))
        ]

-- the mark of a number of the round
pub mark_of : (r : Round) (marks : List Bool) (parts : List Part) (n : ℕ) → IsSeat r marks parts → IsIn r n → slice_index_or marks (n - r.first) false ≡ nat_lt 0 (times_taken n parts)
mark_of r marks parts n s within =
    s.marked (n - r.first) (omega (arith, s.count, within.0, within.1)) ∙ ap (λ (k : ℕ). nat_lt 0 (times_taken k parts)) (omega (arith, within.0))

-- nothing was taken of parts that are untouched
pub times_taken-none : (n : ℕ) (parts : List Part) → All (λ d. d.taken ≡ []) parts → times_taken n parts ≡ 0
times_taken-none n [] all = refl
times_taken-none n (d ∷ ds) all =
    omega (arith, sum_by-cons (λ (e : Part). times n e.taken) d ds, ap (times n) (All-head (λ (e : Part). e.taken ≡ []) d ds all), times_taken-none n ds (All-tail (λ (e : Part). e.taken ≡ []) d ds all))

none_is_pushed : (d : Part) → d.taken ≡ [] → TookPushed d
none_is_pushed d none = λ n. omega (arith, ap (times n) none)

pub IsSeat-join : (r : Round) (marks : List Bool) (parts more : List Part) → IsSeat r marks parts → All (λ d. d.taken ≡ []) more → IsDeal r (parts ++ more) → IsSeat r marks (parts ++ more)
IsSeat-join r marks parts more s none d = record {
  ordered = s.ordered;
  count = s.count;
  marked = λ i less. s.marked i less
      ∙ ap (nat_lt 0) (omega (arith, sum_by-append (λ (e : Part). times (r.first + i) e.taken) parts more, times_taken-none (r.first + i) more none));
  deal = d;
  took = All-append TookPushed parts more s.took (All-weaker (λ (e : Part). e.taken ≡ []) TookPushed none_is_pushed more none);
}

pub IsSeat-new : (r : Round) (d : Part) → r.first ≤ r.last → d.taken ≡ [] → IsDeal r (d ∷ []) → IsSeat r (replicate (r.last - r.first) false) (d ∷ [])
IsSeat-new r d ordered none deal = record {
  ordered = ordered;
  count = length-replicate (r.last - r.first) false;
  marked = λ i less.
      get_or-replicate (r.last - r.first) i false false (subst (λ (k : ℕ). i < k) (length-replicate (r.last - r.first) false) less)
      ∙ ap (nat_lt 0) (sym (times_taken-none (r.first + i) (d ∷ []) (All-cons (λ (e : Part). e.taken ≡ []) d [] none (All-nil (λ (e : Part). e.taken ≡ [])))));
  deal = deal;
  took = All-cons TookPushed d [] (none_is_pushed d none) (All-nil TookPushed);
}
