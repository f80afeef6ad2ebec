-- Spans that have a moment, one span more.
use Rattle.std.proofs.Common.{◌≡◌, ℕ, ◌%◌, ◌<◌, ◌≤◌, nat_eq, Bool, true, ◌||◌, List, [], ◌∷◌, ◌++◌, length, get_or, take, ◌⊎◌, inl, inr, sym, ◌∙◌, subst, ap, false, arith, Option, Some, None}
use Rattle.std.specs.List.{All, Contains, list_any}
use Rattle.std.proofs.lemmas.Bool.{cases_lt, cases_Bool, eqb-true}
use Rattle.std.proofs.lemmas.List.Elements.{All-push, All-weaker, All-contains, Contains-append_left, Contains-append_right, Contains-push, Contains-push_cases}
use Rattle.pg_event.specs.declared.control.Control.{Control}
use Rattle.pg_timeline.specs.declared.timeline.Span.{Span}
use Rattle.pg_event.specs.Spelling.{Recorded}
use Rattle.pg_reach.specs.declared.walker.Walker.{Walker}
use Rattle.pg_reach.specs.Stays.{IsSteady, IsStay, IsWithin, AreSpans, AreSpansUnder, AreStays, IsLatest, AreInOrder, AreThose, AreOwn, ArePcids}
use Rattle.pg_reach.specs.Parts.{ArePart}
use Rattle.pg_reach.specs.Reaching.{IsLastRead}
use Rattle.pg_reach.proofs.Order.{order_push, before_next}

-- what stands where there is no span
abbrev pub no_span : Span Control
no_span = record { value = record { root = 0; pcid = 0; pge = false }; from = 0; to = 0 }

pub within_kept : (xs : List (Span Control)) (s : Span Control) (w : ℕ) → IsWithin xs w → IsWithin (xs ++ s ∷ []) w
within_kept xs s w h = (h.0, Contains-append_left xs (s ∷ []) h.0 h.1, h.2, h.3)

pub within_new : (xs : List (Span Control)) (s : Span Control) (w : ℕ) → s.from ≤ w → w ≤ s.to → IsWithin (xs ++ s ∷ []) w
within_new xs s w low high = (s, Contains-push xs s, low, high)

pub within_cases : (xs : List (Span Control)) (s : Span Control) (w : ℕ) → IsWithin (xs ++ s ∷ []) w → IsWithin xs w ⊎ ((s.from ≤ w) × (w ≤ s.to))
within_cases xs s w h =
    elim (Contains-push_cases xs s h.0 h.1) as (λ _. IsWithin xs w ⊎ ((s.from ≤ w) × (w ≤ s.to))) [
      | inl a ↦ inl (h.0, a, h.2, h.3)
      | inr e ↦ inr (subst (λ (x : Span Control). (x.from ≤ w) × (w ≤ x.to)) (sym e) (h.2, h.3))
    ]

-- one moment's span more
pub within_next : (xs : List (Span Control)) (s : Span Control) (low at : ℕ) → ((w : ℕ) → low ≤ w → w < at → IsWithin xs w) → s.from ≡ at → (w : ℕ) → low ≤ w → w ≤ s.to → IsWithin (xs ++ s ∷ []) w
within_next xs s low at h from w above below =
    elim (cases_lt w at) as (λ _. IsWithin (xs ++ s ∷ []) w) [
      | inl lt ↦ within_kept xs s w (h w above lt)
      | inr le ↦ within_new xs s w (omega (arith, from, le)) below
    ]

-- the spans that have a number, one span more
abbrev HasIn : (ℕ → ℕ) → ℕ → List (Span Control) → Span Control → Type 0
HasIn of k xs s = Contains xs s × (of s.value.pcid ≡ k)

in_more : (of : ℕ → ℕ) (k : ℕ) (xs : List (Span Control)) (s x : Span Control) → HasIn of k xs x → HasIn of k (xs ++ s ∷ []) x
in_more of k xs s x h = (Contains-append_left xs (s ∷ []) x h.0, h.1)

those_before : (of : ℕ → ℕ) (k : ℕ) (xs : List (Span Control)) (i : ℕ) (ys : List (Span Control)) → AreInOrder xs → i < length xs → AreThose of k (take i xs) ys → All (λ x. x.to < (get_or xs i no_span).from) ys
those_before of k xs i ys order lt h = All-weaker (HasIn of k (take i xs)) (λ x. x.to < (get_or xs i no_span).from) (λ x here. before_next xs i no_span order lt x here.0) ys h.each

those_order : (of : ℕ → ℕ) (k : ℕ) (xs : List (Span Control)) (i : ℕ) (ys : List (Span Control)) → AreInOrder xs → i < length xs → AreThose of k (take i xs) ys → AreInOrder (ys ++ get_or xs i no_span ∷ [])
those_order of k xs i ys order lt h = order_push ys (get_or xs i no_span) h.order (those_before of k xs i ys order lt h) (order.each i no_span lt)

those_with : (of : ℕ → ℕ) (k : ℕ) (xs ys : List (Span Control)) (s' : Span Control) → AreInOrder (ys ++ s' ∷ []) → AreThose of k xs ys → of s'.value.pcid ≡ k → AreThose of k (xs ++ s' ∷ []) (ys ++ s' ∷ [])
those_with of k xs ys s' order h own = record {
  order = order;
  each = All-push (HasIn of k (xs ++ s' ∷ [])) ys s' (All-weaker (HasIn of k xs) (HasIn of k (xs ++ s' ∷ [])) (in_more of k xs s') ys h.each) (Contains-push xs s', own);
  all = λ x here is. elim (Contains-push_cases xs s' x here) as (λ _. Contains (ys ++ s' ∷ []) x) [
    | inl a ↦ Contains-append_left ys (s' ∷ []) x (h.all x a is)
    | inr e ↦ subst (Contains (ys ++ s' ∷ [])) e (Contains-push ys s')
  ];
}

pub those_more : (of : ℕ → ℕ) (k : ℕ) (xs : List (Span Control)) (i : ℕ) (ys : List (Span Control)) → AreInOrder xs → i < length xs → AreThose of k (take i xs) ys → of (get_or xs i no_span).value.pcid ≡ k →
    AreThose of k (take i xs ++ get_or xs i no_span ∷ []) (ys ++ get_or xs i no_span ∷ [])
those_more of k xs i ys order lt h own = those_with of k (take i xs) ys (get_or xs i no_span) (those_order of k xs i ys order lt h) h own

pub those_other : (of : ℕ → ℕ) (k : ℕ) (xs ys : List (Span Control)) (s : Span Control) → AreThose of k xs ys → (of s.value.pcid ≡ k → ⊥) → AreThose of k (xs ++ s ∷ []) ys
those_other of k xs ys s h other = record {
  order = h.order;
  each = All-weaker (HasIn of k xs) (HasIn of k (xs ++ s ∷ [])) (in_more of k xs s) ys h.each;
  all = λ x here is. elim (Contains-push_cases xs s x here) as (λ _. Contains ys x) [
    | inl a ↦ h.all x a is
    | inr e ↦ absurd (other (ap (λ (z : Span Control). of z.value.pcid) e ∙ is))
  ];
}

-- what the latest moment of the stays is
pub last_read : (r : Recorded) (v : Walker) (low : ℕ) (stays : List (Span Control)) (at to : ℕ) (read : Option ℕ) → AreStays r v low stays → low ≤ at → to ≤ v.number → IsLatest stays at to read → IsLastRead r v at to read
last_read r v low stays at to None h above under latest = λ w from till here. latest w from till (h.all w (omega (arith, above, from)) (omega (arith, till, under)) here)
last_read r v low stays at to (Some m) h above under latest =
    let s = latest.2 in
    let stay : IsStay r v s.0 = All-contains (IsStay r v) stays s.0 h.each s.1 in
    (latest.0, latest.1, ap (λ (c : Control). c.pcid) (stay.steady.same m s.2 s.3) ∙ stay.pcid, λ w from till here. latest.3 w from till (h.all w (omega (arith, above, from)) (omega (arith, till, under)) here))

-- the spans of a processor that have the PCID are its stays
pub stays_by : (r : Recorded) (v : Walker) (low : ℕ) (spans stays : List (Span Control)) → AreSpansUnder r v low spans → AreOwn v.pcid spans stays → AreStays r v low stays
stays_by r v low spans stays h own = record {
  order = own.order;
  each = All-weaker (HasIn (λ q. q) v.pcid spans) (IsStay r v) (λ s here. record { steady = All-contains (IsSteady r v.p) spans s h.each here.0; pcid = here.1 }) stays own.each;
  all = λ w from till here.
      let s = h.all w from till here in
      let steady : IsSteady r v.p s.0 = All-contains (IsSteady r v.p) spans s.0 h.each s.1 in
      (s.0, own.all s.0 s.1 (ap (λ (c : Control). c.pcid) (sym (steady.same w s.2 s.3)) ∙ here), s.2, s.3);
}

-- all spans of a processor have its moments under the PCID, and so has the part of the PCID
pub spans_under : (r : Recorded) (v : Walker) (p low number : ℕ) (spans : List (Span Control)) → p ≡ v.p → number ≡ v.number → AreSpans r p low number spans → AreSpansUnder r v low spans
spans_under r v p low number spans same last h = record {
  order = h.order;
  each = subst (λ q. All (IsSteady r q) spans) same h.each;
  all = λ w from till here. h.all w from (omega (arith, till, last));
}

pub part_under : (r : Recorded) (v : Walker) (low more : ℕ) (spans part : List (Span Control)) → low ≤ more → AreSpans r v.p low v.number spans → ArePart (v.pcid % 64) spans part → AreSpansUnder r v more part
part_under r v low more spans part le h own = record {
  order = own.order;
  each = All-weaker (HasIn (λ q. q % 64) (v.pcid % 64) spans) (IsSteady r v.p) (λ s here. All-contains (IsSteady r v.p) spans s h.each here.0) part own.each;
  all = λ w from till here.
      let s = h.all w (omega (arith, le, from)) till in
      let steady : IsSteady r v.p s.0 = All-contains (IsSteady r v.p) spans s.0 h.each s.1 in
      let pcid : s.0.value.pcid ≡ v.pcid = ap (λ (c : Control). c.pcid) (sym (steady.same w s.2 s.3)) ∙ here in
      (s.0, own.all s.0 s.1 (ap (λ q. q % 64) pcid), s.2, s.3);
}

-- the PCIDs of spans, one span more

pub pcids_more : (xs : List (Span Control)) (s : Span Control) (pcids : List ℕ) → ArePcids xs pcids → ArePcids (xs ++ s ∷ []) (pcids ++ s.value.pcid ∷ [])
pcids_more xs s pcids h x here =
    elim (Contains-push_cases xs s x here) as (λ _. Contains (pcids ++ s.value.pcid ∷ []) x.value.pcid) [
      | inl a ↦ Contains-append_left pcids (s.value.pcid ∷ []) x.value.pcid (h x a)
      | inr e ↦ subst (λ (z : Span Control). Contains (pcids ++ s.value.pcid ∷ []) z.value.pcid) e (Contains-push pcids s.value.pcid)
    ]

pub pcids_there : (xs : List (Span Control)) (s : Span Control) (pcids : List ℕ) → ArePcids xs pcids → Contains pcids s.value.pcid → ArePcids (xs ++ s ∷ []) pcids
pcids_there xs s pcids h there x here =
    elim (Contains-push_cases xs s x here) as (λ _. Contains pcids x.value.pcid) [
      | inl a ↦ h x a
      | inr e ↦ subst (λ (z : Span Control). Contains pcids z.value.pcid) e there
    ]

pub has_pcid : (pcids : List ℕ) (pcid : ℕ) → list_any (λ y. nat_eq y pcid) pcids ≡ true → Contains pcids pcid
has_pcid [] pcid h = absurd (cc)
has_pcid (x ∷ xs) pcid h =
    elim (cases_Bool (nat_eq x pcid)) as (λ _. Contains (x ∷ xs) pcid) [
      | inl t ↦ (0, omega arith, eqb-true x pcid t)
      | inr f ↦ let rest = has_pcid xs pcid (or_right_of (nat_eq x pcid) (list_any (λ y. nat_eq y pcid) xs) f h) in Contains-append_right (x ∷ []) xs pcid rest
    ]
  where
    or_right_of : (a b : Bool) → a ≡ false → (a || b) ≡ true → b ≡ true
    or_right_of true b f h = absurd (cc)
    or_right_of false b f h = h
