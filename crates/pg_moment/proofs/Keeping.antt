-- What is kept of a word whose last value another takes the place of.
use Rattle.std.proofs.Common.{◌≡◌, ℕ, zero, suc, ◌<◌, nat_eq, true, cond, List, [], ◌∷◌, ◌++◌, length, slice_index_or, refl, ap, sym, subst, ◌∙◌, arith}
use Rattle.std.proofs.lemmas.List.{append-nil, length-append}
use Rattle.std.proofs.Math.ListN.{get_or-append}
use Rattle.std.proofs.Math.Seq.{get_or-append_seam}
use Rattle.pg_timeline.specs.declared.timeline.Stamp.{Stamp}
use Rattle.pg_timeline.specs.Keyed.{AreBelow, stamps_in, IsPushed}
use Rattle.pg_moment.specs.declared.log.Older.{Older}
use Rattle.pg_moment.specs.declared.word.Word.{Word}
use Rattle.pg_moment.specs.declared.word.Others.{Others}
use Rattle.pg_moment.specs.declared.word.Others.TheVariants.{Unwritten, Logged, Listed, LastForgotten}
use Rattle.pg_moment.specs.Stamps.{Lists, nothing, stamp_of, last_stamp, logged, AreLogged, others_of, has_last, stamps_of, AreOthers, IsWord, Keeps}

-- ---- a log that grows

older_before : (log more : List Older) (place : ℕ) → place < length log → slice_index_or (log ++ more) place nothing ≡ slice_index_or log place nothing
older_before log more place within = get_or-append log more nothing place within

pub logged_grown : (log more : List Older) (n place : ℕ) → AreLogged log n place → logged (log ++ more) n place ≡ logged log n place
logged_grown log more zero place are = refl
logged_grown log more (suc n) place are =
    let o = slice_index_or log place nothing in
    ap (λ (k : Older). logged (log ++ more) n k.before ++ stamp_of k ∷ []) (older_before log more place are.0)
    ∙ ap (λ (xs : List (Stamp ℕ)). xs ++ stamp_of o ∷ []) (logged_grown log more n o.before are.1)

pub AreLogged-grown : (log more : List Older) (n place : ℕ) → AreLogged log n place → AreLogged (log ++ more) n place
AreLogged-grown log more zero place are = tt
AreLogged-grown log more (suc n) place are =
    let o = slice_index_or log place nothing in
    let within : place < length (log ++ more) = omega (arith, are.0, length-append log more) in
    let below : AreBelow o.moment (logged (log ++ more) n o.before) = subst (AreBelow o.moment) (sym (logged_grown log more n o.before are.1)) are.2 in
    subst (λ (k : Older). (place < length (log ++ more)) × AreLogged (log ++ more) n k.before × AreBelow k.moment (logged (log ++ more) n k.before)) (sym (older_before log more place are.0))
    (within, AreLogged-grown log more n o.before are.1, below)

-- one more is after those that a word had there
module _ (log : List Older) (o : Older) (n : ℕ) (are : AreLogged log n o.before) (below : AreBelow o.moment (logged log n o.before)) where
  here : slice_index_or (log ++ o ∷ []) (length log) nothing ≡ o
  here = get_or-append_seam log o [] nothing

  pub logged_more : logged (log ++ o ∷ []) (suc n) (length log) ≡ logged log n o.before ++ stamp_of o ∷ []
  logged_more =
      ap (λ (k : Older). logged (log ++ o ∷ []) n k.before ++ stamp_of k ∷ []) here
      ∙ ap (λ (xs : List (Stamp ℕ)). xs ++ stamp_of o ∷ []) (logged_grown log (o ∷ []) n o.before are)

  pub AreLogged-more : AreLogged (log ++ o ∷ []) (suc n) (length log)
  AreLogged-more =
      let within : length log < length (log ++ o ∷ []) = omega (arith, length-append log (o ∷ [])) in
      let before : AreBelow o.moment (logged (log ++ o ∷ []) n o.before) = subst (AreBelow o.moment) (sym (logged_grown log (o ∷ []) n o.before are)) below in
      subst (λ (k : Older). (length log < length (log ++ o ∷ [])) × AreLogged (log ++ o ∷ []) n k.before × AreBelow k.moment (logged (log ++ o ∷ []) n k.before)) (sym here)
      (within, AreLogged-grown log (o ∷ []) n o.before are, before)

-- ---- a word, by where its others are

module _ (log : List Older) (lists : Lists) (addr : ℕ) (w : Word) where
  -- whose others are in the log
  module _ (place count : ℕ) (is : w.others ≡ Logged place count) (word : IsWord log lists addr w) where
    logged_others : AreOthers log lists addr w.moment (Logged place count)
    logged_others = subst (AreOthers log lists addr w.moment) is word

    pub are_logged : AreLogged log count place
    are_logged = logged_others.0

    pub below_last : AreBelow w.moment (logged log count place)
    below_last = logged_others.2

    pub stamps_logged : stamps_of log lists addr w ≡ logged log count place ++ last_stamp w ∷ []
    stamps_logged = ap (λ (o : Others). others_of log lists addr o ++ cond (has_last o) (last_stamp w ∷ []) []) is

    pub keeps_logged : (o : Older) → o ≡ record { value = w.value; moment = w.moment; before = place } → (log' : List Older) → log' ≡ log ++ o ∷ [] → count < 32 → (place' count' : ℕ) → place' ≡ length log → count' ≡ suc count →
        Keeps log lists log' lists addr w (Logged place' count')
    keeps_logged o same log' grown few place' count' at one_more =
        let mine : Older = record { value = w.value; moment = w.moment; before = place } in
        let now : List Older = log ++ mine ∷ [] in
        let stamps : logged now (suc count) (length log) ≡ stamps_of log lists addr w = logged_more log mine count are_logged below_last ∙ sym stamps_logged in
        let kept : Keeps log lists now lists addr w (Logged (length log) (suc count)) = record {
          more = mine ∷ [];
          grown = refl;
          elsewhere = λ a apart. refl;
          same = stamps;
          last = refl;
          holds = λ moment below. (AreLogged-more log mine count are_logged below_last, omega (arith, few), subst (AreBelow moment) (sym stamps) below);
        } in
        subst (λ (l : List Older). Keeps log lists l lists addr w (Logged place' count')) (sym (grown ∙ ap (λ (k : Older). log ++ k ∷ []) same))
        (subst (λ (k : ℕ). Keeps log lists now lists addr w (Logged place' k)) (sym one_more)
        (subst (λ (k : ℕ). Keeps log lists now lists addr w (Logged k (suc count))) (sym at) kept))

    -- and are in a list from now on
    pub keeps_begun : (lists' : Lists) (list : List (Stamp ℕ)) → list ≡ logged log count place ++ last_stamp w ∷ [] → ((a : ℕ) → stamps_in nat_eq lists' a ≡ cond (nat_eq addr a) list (stamps_in nat_eq lists a)) → nat_eq addr addr ≡ true →
        Keeps log lists log lists' addr w Listed
    keeps_begun lists' list is_all at own =
        let stamps : stamps_in nat_eq lists' addr ≡ stamps_of log lists addr w = at addr ∙ ap (λ b. cond b list (stamps_in nat_eq lists addr)) own ∙ is_all ∙ sym stamps_logged in
        record {
          more = [];
          grown = sym (append-nil log);
          elsewhere = λ a apart. at a ∙ ap (λ b. cond b list (stamps_in nat_eq lists a)) apart;
          same = stamps;
          last = refl;
          holds = λ moment below. subst (AreBelow moment) (sym stamps) below;
        }

  -- whose others are in a list
  pub stamps_listed : w.others ≡ Listed → stamps_of log lists addr w ≡ stamps_in nat_eq lists addr ++ last_stamp w ∷ []
  stamps_listed is = ap (λ (o : Others). others_of log lists addr o ++ cond (has_last o) (last_stamp w ∷ []) []) is

  pub keeps_listed : w.others ≡ Listed → (lists' : Lists) → IsPushed nat_eq lists lists' addr (last_stamp w) → nat_eq addr addr ≡ true → Keeps log lists log lists' addr w Listed
  keeps_listed is lists' pushed own =
      let stamps : stamps_in nat_eq lists' addr ≡ stamps_of log lists addr w = pushed.at addr ∙ ap (λ b. cond b (stamps_in nat_eq lists addr ++ last_stamp w ∷ []) (stamps_in nat_eq lists addr)) own ∙ sym (stamps_listed is) in
      record {
        more = [];
        grown = sym (append-nil log);
        elsewhere = λ a apart. pushed.at a ∙ ap (λ b. cond b (stamps_in nat_eq lists addr ++ last_stamp w ∷ []) (stamps_in nat_eq lists a)) apart;
        same = stamps;
        last = refl;
        holds = λ moment below. subst (AreBelow moment) (sym stamps) below;
      }

  -- that has no last value
  pub keeps_first : w.others ≡ Unwritten → Keeps log lists log lists addr w (Logged 0 0)
  keeps_first is =
      let stamps : [] ≡ stamps_of log lists addr w = sym (ap (λ (o : Others). others_of log lists addr o ++ cond (has_last o) (last_stamp w ∷ []) []) is) in
      record {
        more = [];
        grown = sym (append-nil log);
        elsewhere = λ a apart. refl;
        same = stamps;
        last = refl;
        holds = λ moment below. (tt, omega arith, tt);
      }

  pub keeps_forgotten : w.others ≡ LastForgotten → Keeps log lists log lists addr w Listed
  keeps_forgotten is =
      let stamps : stamps_in nat_eq lists addr ≡ stamps_of log lists addr w =
      sym (ap (λ (o : Others). others_of log lists addr o ++ cond (has_last o) (last_stamp w ∷ []) []) is ∙ append-nil (stamps_in nat_eq lists addr)) in
      record {
        more = [];
        grown = sym (append-nil log);
        elsewhere = λ a apart. refl;
        same = stamps;
        last = refl;
        holds = λ moment below. subst (AreBelow moment) (sym stamps) below;
      }
