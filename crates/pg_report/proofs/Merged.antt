-- What is known of verdicts once some of them were looked at.
use Rattle.std.proofs.Common.{All, ◌≡◌, ◌⊎◌, inl, inr, ⊎_elim, ℕ, ◌+◌, ◌-◌, ◌≤◌, ◌<◌, List, [], ◌∷◌, ◌++◌, length, take, get_or, slice_index_or, MatchOption, Option, Some, None, Ok, sym, ◌∙◌, subst, arith}
use Rattle.std.proofs.lemmas.List.{take_more}
use Rattle.std.proofs.lemmas.List.Elements.{All-push, All-weaker, Contains-push, Contains-append_left}
use Rattle.pg_check.specs.declared.stretch.SegmentVerdict.{SegmentVerdict}
use Rattle.pg_pool.specs.declared.round.Round.{Round}
use Rattle.pg_pool.specs.Rounds.{IsIn}
use Rattle.pg_event.specs.declared.event.Reason.{Reason}
use Rattle.pg_report.specs.Text.{verdict_of}
use Rattle.pg_report.specs.Merging.{IsLower, IsStranger, Merges, IsFirstBad, IsDouble, IsMissing, IsLeast, NoneIs, AreOneEach, AreCounts}

-- ---- counts

module _ (r : Round) (verdicts : List SegmentVerdict) (counts : List ℕ) (h : AreCounts r verdicts counts) where
  pub double_here : (n : ℕ) → IsIn r n → 1 < slice_index_or counts (n - r.first) 0 → IsDouble r verdicts n
  double_here n within more = (within, omega (arith, h.count n within, more))

  pub missing_here : (n : ℕ) → IsIn r n → slice_index_or counts (n - r.first) 0 ≡ 0 → IsMissing r verdicts n
  missing_here n within none = (within, sym (h.count n within) ∙ none)

  pub double_found : (n : ℕ) → IsIn r n → 1 < slice_index_or counts (n - r.first) 0 → ((m : ℕ) → IsIn r m → m < n → slice_index_or counts (m - r.first) 0 ≤ 1) → IsLeast (IsDouble r verdicts) n
  double_found n within more below = record {
    is = double_here n within more;
    least = λ m d. not_below m n (λ less. absurd (omega (arith, below m d.0 less, h.count m d.0, d.1)));
  }
    where
      not_below : (m n : ℕ) → (m < n → ⊥) → n ≤ m
      not_below m n h = grind arith

  pub no_double : ((m : ℕ) → IsIn r m → slice_index_or counts (m - r.first) 0 ≤ 1) → NoneIs (IsDouble r verdicts)
  no_double all n d = absurd (omega (arith, all n d.0, h.count n d.0, d.1))

  pub missing_found : (n : ℕ) → IsIn r n → slice_index_or counts (n - r.first) 0 ≡ 0 → ((m : ℕ) → IsIn r m → m < n → 0 < slice_index_or counts (m - r.first) 0) → IsLeast (IsMissing r verdicts) n
  missing_found n within none below = record {
    is = missing_here n within none;
    least = λ m d. not_below m n (λ less. absurd (omega (arith, below m d.0 less, h.count m d.0, d.1)));
  }
    where
      not_below : (m n : ℕ) → (m < n → ⊥) → n ≤ m
      not_below m n h = grind arith

  pub no_missing : ((m : ℕ) → IsIn r m → 0 < slice_index_or counts (m - r.first) 0) → NoneIs (IsMissing r verdicts)
  no_missing all n d = absurd (omega (arith, all n d.0, h.count n d.0, d.1))

-- ---- the answer

pub merged : (r : Round) (verdicts : List SegmentVerdict) (bad : Option (ℕ × Reason)) → AreOneEach r verdicts → MatchOption bad (All (λ v. v.first_bad ≡ None) verdicts) (IsFirstBad verdicts) → Merges r verdicts (Ok (verdict_of bad))
merged r verdicts None each none = (each, none)
merged r verdicts (Some bad) each first = (each, first)

-- ---- strangers

abbrev pub SeenStrangers : Round → Option SegmentVerdict → List SegmentVerdict → Type 0
SeenStrangers r least seen = MatchOption least (All (λ v. IsIn r v.number) seen) (IsStranger r seen)

module _ (r : Round) (seen : List SegmentVerdict) (v : SegmentVerdict) where
  pub stranger-stays : (least : Option SegmentVerdict) → SeenStrangers r least seen → IsIn r v.number → SeenStrangers r least (seen ++ v ∷ [])
  stranger-stays None all within = All-push (λ (u : SegmentVerdict). IsIn r u.number) seen v all within
  stranger-stays (Some least) s within = record {
    there = Contains-append_left seen (v ∷ []) least s.there;
    outside = s.outside;
    least = All-push (λ (u : SegmentVerdict). IsIn r u.number ⊎ (least.number ≤ u.number)) seen v s.least (inl within);
  }

  pub stranger-comes : (least : Option SegmentVerdict) (lower : SegmentVerdict) → SeenStrangers r least seen → (IsIn r v.number → ⊥) → IsLower least v lower → IsStranger r (seen ++ v ∷ []) lower
  stranger-comes None lower all outside is =
      subst (IsStranger r (seen ++ v ∷ [])) (sym is) (record {
        there = Contains-push seen v;
        outside = outside;
        least = All-push (λ (u : SegmentVerdict). IsIn r u.number ⊎ (v.number ≤ u.number)) seen v (All-weaker (λ (u : SegmentVerdict). IsIn r u.number) (λ (u : SegmentVerdict). IsIn r u.number ⊎ (v.number ≤ u.number)) (λ u within. inl within) seen all) (inr (omega arith));
      })
  stranger-comes (Some least) lower s outside (inl (is, le)) =
      subst (IsStranger r (seen ++ v ∷ [])) (sym is) (record {
        there = Contains-append_left seen (v ∷ []) least s.there;
        outside = s.outside;
        least = All-push (λ (u : SegmentVerdict). IsIn r u.number ⊎ (least.number ≤ u.number)) seen v s.least (inr le);
      })
  stranger-comes (Some least) lower s outside (inr (is, less)) =
      subst (IsStranger r (seen ++ v ∷ [])) (sym is) (record {
        there = Contains-push seen v;
        outside = outside;
        least = All-push (λ (u : SegmentVerdict). IsIn r u.number ⊎ (v.number ≤ u.number)) seen v
            (All-weaker (λ (u : SegmentVerdict). IsIn r u.number ⊎ (least.number ≤ u.number)) (λ (u : SegmentVerdict). IsIn r u.number ⊎ (v.number ≤ u.number)) (λ u either. ⊎_elim (λ within. inl within) (λ le. inr (omega (arith, le, less))) either) seen s.least)
            (inr (omega arith));
      })

module _ (r : Round) (vs : List SegmentVerdict) (i : ℕ) (d : SegmentVerdict) (less : i < length vs) where
  pub seen-stays : (old new : Option SegmentVerdict) → new ≡ old → SeenStrangers r old (take i vs) → IsIn r (get_or vs i d).number → SeenStrangers r new (take (i + 1) vs)
  seen-stays old new same s within =
      subst (λ (l : List SegmentVerdict). SeenStrangers r new l) (sym (take_more vs i d less))
      (subst (λ (o : Option SegmentVerdict). SeenStrangers r o (take i vs ++ get_or vs i d ∷ [])) (sym same) (stranger-stays r (take i vs) (get_or vs i d) old s within))

  pub seen-comes : (old new : Option SegmentVerdict) (lower : SegmentVerdict) → new ≡ Some lower → SeenStrangers r old (take i vs) → (IsIn r (get_or vs i d).number → ⊥) → IsLower old (get_or vs i d) lower → SeenStrangers r new (take (i + 1) vs)
  seen-comes old new lower same s outside is =
      subst (λ (l : List SegmentVerdict). SeenStrangers r new l) (sym (take_more vs i d less))
      (subst (λ (o : Option SegmentVerdict). SeenStrangers r o (take i vs ++ get_or vs i d ∷ [])) (sym same) (stranger-comes r (take i vs) (get_or vs i d) old lower s outside is))
