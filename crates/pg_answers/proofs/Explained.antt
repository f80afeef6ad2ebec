-- The causes of bad events, one by one.
use Rattle.std.proofs.Common.{ℕ, ◌+◌, ◌<◌, List, [], ◌∷◌, ◌++◌, length, take, get_or, sym, subst}
use Rattle.std.proofs.lemmas.List.{take_more}
use Rattle.pg_event.specs.declared.event.Event.{Event}
use Rattle.pg_event.specs.Heads.{Head}
use Rattle.pg_explain.specs.declared.bad_events.Bad.{Bad}
use Rattle.pg_explain.specs.declared.explainer.Explanation.{Explanation}
use Rattle.pg_explain.specs.Explained.{IsExplained}
use Rattle.pg_answers.specs.Answers.{AreExplanations}

module _ (head : Head) (events : List Event) where
  pushed : (bs : List Bad) (told : List Explanation) (b : Bad) (x : Explanation) → AreExplanations head events bs told → IsExplained head events b.number x → AreExplanations head events (bs ++ b ∷ []) (told ++ x ∷ [])
  pushed [] [] b x h e = (e, tt)
  pushed [] (y ∷ ys) b x h e = absurd h
  pushed (c ∷ cs) [] b x h e = absurd h
  pushed (c ∷ cs) (y ∷ ys) b x h e = (h.0, pushed cs ys b x h.1 e)

  pub next_explained : (bs : List Bad) (told : List Explanation) (i : ℕ) (d : Bad) (x : Explanation) → i < length bs → AreExplanations head events (take i bs) told →
      IsExplained head events (get_or bs i d).number x → AreExplanations head events (take (i + 1) bs) (told ++ x ∷ [])
  next_explained bs told i d x within h e =
      subst (λ (xs : List Bad). AreExplanations head events xs (told ++ x ∷ [])) (sym (take_more bs i d within)) (pushed (take i bs) told (get_or bs i d) x h e)
