-- Stamps in the log.
use Rattle.std.proofs.Common.{◌≡◌, ℕ, zero, suc, ◌-◌, ◌<◌, ◌≤◌, cond, List, [], ◌∷◌, ◌++◌, length, slice_index_or, Some, ap, sym, subst, ◌∙◌, arith}
use Rattle.std.proofs.lemmas.Bool.{lt-ltb, le-ltb}
use Rattle.pg_timeline.specs.declared.timeline.Stamp.{Stamp}
use Rattle.pg_timeline.specs.Timelines.{last_before}
use Rattle.pg_timeline.specs.Keyed.{AreBelow}
use Rattle.pg_timeline.proofs.Timelines.{last_before-push}
use Rattle.pg_moment.specs.declared.log.Older.{Older}
use Rattle.pg_moment.specs.Stamps.{nothing, stamp_of, logged, AreLogged}

abbrev pub older_at : List Older → ℕ → Older
older_at log place = slice_index_or log place nothing

-- the last of some stamps is in the log, and so are the others
pub record IsLast (log : List Older) (left place : ℕ) (o : Older) : Type 0 where
  pub within : place < length log
  pub others : AreLogged log (left - 1) o.before
  pub below : AreBelow o.moment (logged log (left - 1) o.before)
  pub parts : logged log left place ≡ logged log (left - 1) o.before ++ stamp_of o ∷ []

pub is_last : (log : List Older) (left place : ℕ) (o : Older) → 0 < left → AreLogged log left place → o ≡ slice_index_or log place nothing → IsLast log left place o
is_last log zero place o some are same = absurd (omega (arith, some))
is_last log (suc n) place o some are same =
    let one : suc n - 1 ≡ n = omega arith in
    let p = older_at log place in
    let here : IsLast log (suc n) place p = record {
      within = are.0;
      others = subst (λ k. AreLogged log k p.before) (sym one) are.1;
      below = subst (λ k. AreBelow p.moment (logged log k p.before)) (sym one) are.2;
      parts = ap (λ k. logged log k p.before ++ stamp_of p ∷ []) (sym one);
    } in
    subst (IsLast log (suc n) place) (sym same) here

module _ (log : List Older) (left place : ℕ) (o : Older) (last : IsLast log left place o) where
  -- the last is seen at the moments after it, and not at those before
  pub seen_after : (w : ℕ) → o.moment < w → last_before w (logged log left place) ≡ Some o.value
  seen_after w after =
      ap (λ (xs : List (Stamp ℕ)). last_before w xs) last.parts
      ∙ last_before-push w (logged log (left - 1) o.before) (stamp_of o)
      ∙ ap (λ b. cond b (Some o.value) (last_before w (logged log (left - 1) o.before))) (lt-ltb o.moment w after)

  pub seen_before : (w : ℕ) → w ≤ o.moment → last_before w (logged log left place) ≡ last_before w (logged log (left - 1) o.before)
  seen_before w before =
      ap (λ (xs : List (Stamp ℕ)). last_before w xs) last.parts
      ∙ last_before-push w (logged log (left - 1) o.before) (stamp_of o)
      ∙ ap (λ b. cond b (Some o.value) (last_before w (logged log (left - 1) o.before))) (le-ltb o.moment w before)
