-- Words in a log and lists that grow.
use Rattle.std.proofs.Common.{◌≡◌, ℕ, nat_eq, false, cond, List, [], ◌∷◌, ◌++◌, refl, ap, sym, subst, ◌∙◌}
use Rattle.pg_timeline.specs.declared.timeline.Stamp.{Stamp}
use Rattle.pg_timeline.specs.Keyed.{AreBelow, stamps_in}
use Rattle.pg_moment.specs.declared.log.Older.{Older}
use Rattle.pg_moment.specs.declared.word.Word.{Word}
use Rattle.pg_moment.specs.declared.word.Others.{Others}
use Rattle.pg_moment.specs.declared.word.Others.TheVariants.{Unwritten, Logged, Listed, LastForgotten}
use Rattle.pg_moment.specs.Stamps.{Lists, last_stamp, logged, AreLogged, others_of, has_last, stamps_of, AreOthers, IsWord, Keeps}
use Rattle.pg_moment.proofs.Keeping.{logged_grown, AreLogged-grown}

module _ (log : List Older) (lists : Lists) (log' : List Older) (lists' : Lists) (more : List Older) (grown : log' ≡ log ++ more) (a : ℕ) (same : stamps_in nat_eq lists' a ≡ stamps_in nat_eq lists a) where
  others_grown : (last : ℕ) (o : Others) → AreOthers log lists a last o → others_of log' lists' a o ≡ others_of log lists a o
  others_grown last Unwritten are = refl
  others_grown last (Logged place count) are = ap (λ (l : List Older). logged l count place) grown ∙ logged_grown log more count place are.0
  others_grown last Listed are = same
  others_grown last LastForgotten are = same

  AreOthers-grown : (last : ℕ) (o : Others) → AreOthers log lists a last o → AreOthers log' lists' a last o
  AreOthers-grown last Unwritten are = tt
  AreOthers-grown last (Logged place count) are =
      let inside : AreLogged log' count place = subst (λ (l : List Older). AreLogged l count place) (sym grown) (AreLogged-grown log more count place are.0) in
      (inside, are.1, subst (AreBelow last) (sym (others_grown last (Logged place count) are)) are.2)
  AreOthers-grown last Listed are = subst (AreBelow last) (sym same) are
  AreOthers-grown last LastForgotten are = tt

module _ (log : List Older) (lists : Lists) (log' : List Older) (lists' : Lists) (addr : ℕ) (w : Word) (others : Others) where
  pub stamps_grown : (a : ℕ) (v : Word) → Keeps log lists log' lists' addr w others → nat_eq addr a ≡ false → IsWord log lists a v → stamps_of log' lists' a v ≡ stamps_of log lists a v
  stamps_grown a v kept apart word =
      ap (λ xs. xs ++ cond (has_last v.others) (last_stamp v ∷ []) [])
      (others_grown log lists log' lists' kept.more kept.grown a (kept.elsewhere a apart) v.moment v.others word)

  pub IsWord-grown : (a : ℕ) (v : Word) → Keeps log lists log' lists' addr w others → nat_eq addr a ≡ false → IsWord log lists a v → IsWord log' lists' a v
  IsWord-grown a v kept apart word = AreOthers-grown log lists log' lists' kept.more kept.grown a (kept.elsewhere a apart) v.moment v.others word

  pub stamps_written : (stamp : Stamp ℕ) → Keeps log lists log' lists' addr w others →
      stamps_of log' lists' addr (record { value = stamp.value; moment = stamp.moment; others = others }) ≡ stamps_of log lists addr w ++ stamp ∷ []
  stamps_written stamp kept =
      ap (λ b. others_of log' lists' addr others ++ cond b (stamp ∷ []) []) kept.last
      ∙ ap (λ xs. xs ++ stamp ∷ []) kept.same

  pub IsWord-written : (stamp : Stamp ℕ) → Keeps log lists log' lists' addr w others → AreBelow stamp.moment (stamps_of log lists addr w) →
      IsWord log' lists' addr (record { value = stamp.value; moment = stamp.moment; others = others })
  IsWord-written stamp kept below = kept.holds stamp.moment below
