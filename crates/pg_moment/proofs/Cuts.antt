-- Words without their values from a moment on.
use Rattle.std.proofs.Common.{◌≡◌, ℕ, zero, suc, ◌<◌, ◌≤◌, nat_eq, nat_lt, inl, inr, cond, List, [], ◌∷◌, ◌++◌, length, slice_get, slice_index_or, Some, refl, ap, sym, subst, ◌∙◌, arith}
use Rattle.std.specs.Option.{option_map, unwrap_or}
use Rattle.std.proofs.lemmas.Bool.{cases_lt, lt-ltb, le-ltb}
use Rattle.std.proofs.lemmas.List.{append-nil}
use Rattle.std.proofs.lemmas.List.Elements.{filter-append}
use Rattle.pg_timeline.specs.declared.timeline.Stamp.{Stamp}
use Rattle.pg_timeline.specs.Timelines.{cut_at}
use Rattle.pg_timeline.specs.Keyed.{AreBelow, stamps_in}
use Rattle.pg_moment.specs.declared.log.Older.{Older}
use Rattle.pg_moment.specs.declared.word.Word.{Word}
use Rattle.pg_moment.specs.declared.word.Others.{Others}
use Rattle.pg_moment.specs.declared.word.Others.TheVariants.{Unwritten, Logged, Listed, LastForgotten}
use Rattle.pg_moment.specs.Stamps.{Lists, nothing, unwritten, last_stamp, logged, AreLogged, others_of, has_last, stamps_of, AreOthers, IsWord, cut_logged, cut_by, cut_word}

-- stamps below a moment stay, and one that is not goes
cut_none : (m n : ℕ) (xs : List (Stamp ℕ)) → n ≤ m → AreBelow n xs → cut_at m xs ≡ xs
cut_none m n [] le below = refl
cut_none m n (x ∷ xs) le below =
    ap (λ b. cond b (x ∷ cut_at m xs) (cut_at m xs)) (lt-ltb x.moment m (omega (arith, le, below.0)))
    ∙ ap (λ ys. x ∷ ys) (cut_none m n xs le below.1)

cut_push : (m : ℕ) (xs : List (Stamp ℕ)) (s : Stamp ℕ) → cut_at m (xs ++ s ∷ []) ≡ cut_at m xs ++ cond (nat_lt s.moment m) (s ∷ []) []
cut_push m xs s = filter-append (λ (y : Stamp ℕ). nat_lt y.moment m) xs (s ∷ [])

cut_kept : (m : ℕ) (xs : List (Stamp ℕ)) (s : Stamp ℕ) → AreBelow s.moment xs → s.moment < m → cut_at m (xs ++ s ∷ []) ≡ xs ++ s ∷ []
cut_kept m xs s below lt =
    cut_push m xs s
    ∙ ap (λ b. cut_at m xs ++ cond b (s ∷ []) []) (lt-ltb s.moment m lt)
    ∙ ap (λ ys. ys ++ s ∷ []) (cut_none m s.moment xs (omega (arith, lt)) below)

cut_gone : (m : ℕ) (xs : List (Stamp ℕ)) (s : Stamp ℕ) → m ≤ s.moment → cut_at m (xs ++ s ∷ []) ≡ cut_at m xs
cut_gone m xs s le =
    cut_push m xs s
    ∙ ap (λ b. cut_at m xs ++ cond b (s ∷ []) []) (le-ltb s.moment m le)
    ∙ append-nil (cut_at m xs)

got : (log : List Older) (place : ℕ) → place < length log → slice_get log place ≡ Some (slice_index_or log place nothing)
got [] place within = absurd (omega (arith, within))
got (o ∷ log) zero within = refl
got (o ∷ log) (suc place) within = got log place (omega (arith, within))

module _ (log : List Older) (lists lists' : Lists) (m a : ℕ) (cut : stamps_in nat_eq lists' a ≡ cut_at m (stamps_in nat_eq lists a)) where
  -- what a word comes to that is cut
  record Comes (xs : List (Stamp ℕ)) (w : Word) : Type 0 where
    stamps : stamps_of log lists' a w ≡ cut_at m xs
    word : IsWord log lists' a w

  kept_logged : (count place : ℕ) (w : Word) → w.others ≡ Logged place count → AreLogged log count place → count ≤ 32 → AreBelow w.moment (logged log count place) → w.moment < m → Comes (logged log count place ++ last_stamp w ∷ []) w
  kept_logged count place w is are few below lt = record {
    stamps = ap (λ (o : Others). others_of log lists' a o ++ cond (has_last o) (last_stamp w ∷ []) []) is ∙ sym (cut_kept m (logged log count place) (last_stamp w) below lt);
    word = subst (AreOthers log lists' a w.moment) (sym is) (are, few, below);
  }

  cut_logged-comes : (count place : ℕ) (w : Word) → w.others ≡ Logged place count → AreLogged log count place → count ≤ 32 → AreBelow w.moment (logged log count place) → Comes (logged log count place ++ last_stamp w ∷ []) (cut_logged log m count place w)
  cut_logged-comes zero place w is are few below =
      elim (cases_lt w.moment m) [
        | inl lt ↦ subst (Comes (last_stamp w ∷ [])) (sym (ap (λ b. cond b w unwritten) (lt-ltb w.moment m lt))) (kept_logged zero place w is are few below lt)
        | inr le ↦
            let none : Comes (last_stamp w ∷ []) unwritten = record { stamps = sym (cut_gone m [] (last_stamp w) le); word = tt } in
            subst (Comes (last_stamp w ∷ [])) (sym (ap (λ b. cond b w unwritten) (le-ltb w.moment m le))) none
      ]
  cut_logged-comes (suc n) place w is are few below =
      let o = slice_index_or log place nothing in
      let back : Older → Word = λ k. cut_logged log m n k.before (record { value = k.value; moment = k.moment; others = Logged k.before n }) in
      let all = logged log (suc n) place ++ last_stamp w ∷ [] in
      elim (cases_lt w.moment m) [
        | inl lt ↦ subst (Comes all) (sym (ap (λ b. cond b w (unwrap_or (option_map back (slice_get log place)) unwritten)) (lt-ltb w.moment m lt))) (kept_logged (suc n) place w is are few below lt)
        | inr le ↦
            let before = cut_logged-comes n o.before (record { value = o.value; moment = o.moment; others = Logged o.before n }) refl are.1 (omega (arith, few)) are.2 in
            let comes : Comes all (back o) = record {
              stamps = before.stamps ∙ sym (cut_gone m (logged log (suc n) place) (last_stamp w) le);
              word = before.word;
            } in
            subst (Comes all) (sym (ap (λ b. cond b w (unwrap_or (option_map back (slice_get log place)) unwritten)) (le-ltb w.moment m le) ∙ ap (λ f. unwrap_or (option_map back f) unwritten) (got log place are.0))) comes
      ]

  cut_by-comes : (w : Word) (o : Others) → w.others ≡ o → AreOthers log lists a w.moment o → Comes (others_of log lists a o ++ cond (has_last o) (last_stamp w ∷ []) []) (cut_by log m w o)
  cut_by-comes w Unwritten is are = record {
    stamps = ap (λ (o : Others). others_of log lists' a o ++ cond (has_last o) (last_stamp w ∷ []) []) is;
    word = subst (AreOthers log lists' a w.moment) (sym is) tt;
  }
  cut_by-comes w (Logged place count) is are = cut_logged-comes count place w is are.0 are.1 are.2
  cut_by-comes w Listed is are =
      let xs = stamps_in nat_eq lists a in
      let forgotten : Word = record { value = w.value; moment = w.moment; others = LastForgotten } in
      elim (cases_lt w.moment m) [
        | inl lt ↦
            let here : stamps_in nat_eq lists' a ≡ xs = cut ∙ cut_none m w.moment xs (omega (arith, lt)) are in
            let kept : Comes (xs ++ last_stamp w ∷ []) w = record {
              stamps = ap (λ (o : Others). others_of log lists' a o ++ cond (has_last o) (last_stamp w ∷ []) []) is
                  ∙ ap (λ ys. ys ++ last_stamp w ∷ []) here ∙ sym (cut_kept m xs (last_stamp w) are lt);
              word = subst (AreOthers log lists' a w.moment) (sym is) (subst (AreBelow w.moment) (sym here) are);
            } in
            subst (Comes (xs ++ last_stamp w ∷ [])) (sym (ap (λ b. cond b w forgotten) (lt-ltb w.moment m lt))) kept
        | inr le ↦
            let gone : Comes (xs ++ last_stamp w ∷ []) forgotten = record {
              stamps = append-nil (stamps_in nat_eq lists' a) ∙ cut ∙ sym (cut_gone m xs (last_stamp w) le);
              word = tt;
            } in
            subst (Comes (xs ++ last_stamp w ∷ [])) (sym (ap (λ b. cond b w forgotten) (le-ltb w.moment m le))) gone
      ]
  cut_by-comes w LastForgotten is are =
      let xs = stamps_in nat_eq lists a in
      record {
        stamps = ap (λ (o : Others). others_of log lists' a o ++ cond (has_last o) (last_stamp w ∷ []) []) is
            ∙ append-nil (stamps_in nat_eq lists' a) ∙ cut ∙ ap (cut_at m) (sym (append-nil xs));
        word = subst (AreOthers log lists' a w.moment) (sym is) tt;
      }

pub stamps_cut : (log : List Older) (lists lists' : Lists) (m a : ℕ) (w : Word) → stamps_in nat_eq lists' a ≡ cut_at m (stamps_in nat_eq lists a) → IsWord log lists a w → stamps_of log lists' a (cut_word log m w) ≡ cut_at m (stamps_of log lists a w)
stamps_cut log lists lists' m a w cut word = (cut_by-comes log lists lists' m a cut w w.others refl word).stamps

pub IsWord-cut : (log : List Older) (lists lists' : Lists) (m a : ℕ) (w : Word) → stamps_in nat_eq lists' a ≡ cut_at m (stamps_in nat_eq lists a) → IsWord log lists a w → IsWord log lists' a (cut_word log m w)
IsWord-cut log lists lists' m a w cut word = (cut_by-comes log lists lists' m a cut w w.others refl word).word
