-- The moments of each key where some have one more.
use Rattle.std.proofs.Common.{◌≡◌, ℕ, zero, suc, length, take, get_or, ◌<◌, ◌≤◌, Bool, true, false, ◌||◌, cond, List, [], ◌∷◌, ◌++◌, refl, ap, sym, ◌∙◌, arith, inl, inr}
use Rattle.std.specs.List.{list_any}
use Rattle.std.proofs.lemmas.Bool.{cases_Bool, cond_both, lt-ltb, le-ltb, false≢true}
use Rattle.std.proofs.lemmas.List.Folds.{list_any-append}
use Rattle.pg_timeline.specs.declared.timeline.Stamp.{Stamp}
use Rattle.pg_timeline.specs.Timelines.{end_of, cut_at}
use Rattle.pg_timeline.specs.Keyed.{stamps_in, AreBelow, EndsBefore, IsPushed, AreCut}
use Rattle.pg_timeline.proofs.Timelines.{end_of-below}
use Rattle.pg_inval.specs.declared.key.DropKey.{DropKey}
use Rattle.pg_inval.specs.Keys.{is_same_key, has_key}
use Rattle.pg_inval.specs.Lists.{Moments, AreDistinct, ArePushed, AreSame}
use Rattle.pg_inval.specs.SameKey.{same_key}

abbrev stamp : ℕ → Stamp Unit
stamp moment = record { moment = moment; value = tt }

abbrev pub at_key : Moments → DropKey → List (Stamp Unit)
at_key entries k = stamps_in is_same_key entries k

or_false : (b : Bool) → (b || false) ≡ b
or_false true = refl
or_false false = refl

-- ---- keys pushed one after another

pub ArePushed-none : (old : Moments) (moment : ℕ) → ArePushed old old [] moment
ArePushed-none old moment = record { at = λ k. refl }

pub has_key-more : (done : List DropKey) (key k : DropKey) → has_key (done ++ key ∷ []) k ≡ (has_key done k || is_same_key key k)
has_key-more done key k =
    list_any-append (λ d. is_same_key d k) done (key ∷ []) ∙ ap (λ b. has_key done k || b) (or_false (is_same_key key k))

or_true : (b c : Bool) → c ≡ true → (b || c) ≡ true
or_true true c h = refl
or_true false c h = h

or_other : (b c : Bool) → c ≡ false → (b || c) ≡ b
or_other true c h = refl
or_other false c h = h

-- a key that was not among those before has its moment
pub ArePushed-one : (old mid new : Moments) (done : List DropKey) (key : DropKey) (moment : ℕ) → ArePushed old mid done moment → has_key done key ≡ false →
    IsPushed is_same_key mid new key (stamp moment) → ArePushed old new (done ++ key ∷ []) moment
ArePushed-one old mid new done key moment before fresh pushed =
    let unchanged : at_key mid key ≡ at_key old key = before.at key ∙ ap (λ b. cond b (at_key old key ++ stamp moment ∷ []) (at_key old key)) fresh in
    record {
      at = λ k.
          pushed.at k
          ∙ elim (cases_Bool (is_same_key key k)) [
            | inl own ↦
                let same : key ≡ k = same_key key k own in
                ap (λ b. cond b (at_key mid key ++ stamp moment ∷ []) (at_key mid k)) own
                ∙ ap (λ xs. xs ++ stamp moment ∷ []) unchanged
                ∙ ap (λ q. at_key old q ++ stamp moment ∷ []) same
                ∙ sym (ap (λ b. cond b (at_key old k ++ stamp moment ∷ []) (at_key old k)) (has_key-more done key k ∙ or_true (has_key done k) (is_same_key key k) own))
            | inr other ↦
                ap (λ b. cond b (at_key mid key ++ stamp moment ∷ []) (at_key mid k)) other
                ∙ before.at k
                ∙ sym (ap (λ b. cond b (at_key old k ++ stamp moment ∷ []) (at_key old k)) (has_key-more done key k ∙ or_other (has_key done k) (is_same_key key k) other))
          ];
    }

-- where the next key was not among those before, its list is as it was
pub end_of-fresh : (old mid : Moments) (done : List DropKey) (key : DropKey) (moment : ℕ) → EndsBefore is_same_key old moment → ArePushed old mid done moment → has_key done key ≡ false →
    end_of (at_key mid key) ≤ moment
end_of-fresh old mid done key moment ends before fresh =
    rw (before.at key, fresh) (end_of-below moment (at_key old key) (ends.below key))

-- ---- a cut takes back what was pushed

cut_below : (w : ℕ) (xs : List (Stamp Unit)) → AreBelow w xs → cut_at w xs ≡ xs
cut_below w [] b = refl
cut_below w (x ∷ xs) b = ap (λ t. cond t (x ∷ cut_at w xs) (cut_at w xs)) (lt-ltb x.moment w b.0) ∙ ap (λ ys. x ∷ ys) (cut_below w xs b.1)

cut_pushed : (w : ℕ) (xs : List (Stamp Unit)) → AreBelow w xs → cut_at w (xs ++ stamp w ∷ []) ≡ xs
cut_pushed w [] b = ap (λ t. cond t (stamp w ∷ []) []) (le-ltb w w (omega arith))
cut_pushed w (x ∷ xs) b = ap (λ t. cond t (x ∷ cut_at w (xs ++ stamp w ∷ [])) (cut_at w (xs ++ stamp w ∷ []))) (lt-ltb x.moment w b.0) ∙ ap (λ ys. x ∷ ys) (cut_pushed w xs b.1)

pub AreSame-cut : (old mid new : Moments) (done : List DropKey) (moment : ℕ) → EndsBefore is_same_key old moment → ArePushed old mid done moment → AreCut is_same_key mid new moment → AreSame old new
AreSame-cut old mid new done moment ends pushed cut = record {
  at = λ k. cut.at k ∙ ap (cut_at moment) (pushed.at k)
      ∙ cond_both (has_key done k) (at_key old k ++ stamp moment ∷ []) (at_key old k) (λ ys. cut_at moment ys ≡ at_key old k)
      (λ _. cut_pushed moment (at_key old k) (ends.below k))
      (λ _. cut_below moment (at_key old k) (ends.below k));
}

-- ---- the keys of a list, one after another

or_none : (b c : Bool) → (b || c) ≡ false → (b ≡ false) × (c ≡ false)
or_none true c h = absurd (false≢true (sym h))
or_none false c h = (refl, h)

none_at : (test : DropKey → Bool) (ks : List DropKey) (i : ℕ) (d : DropKey) → list_any test ks ≡ false → i < length ks → test (get_or ks i d) ≡ false
none_at test [] i d h lt = absurd (omega arith)
none_at test (k ∷ ks) zero d h lt = (or_none (test k) (list_any test ks) h).0
none_at test (k ∷ ks) (suc i) d h lt = none_at test ks i d (or_none (test k) (list_any test ks) h).1 (omega arith)

-- a key is not among those before it
pub fresh_at : (ks : List DropKey) (i : ℕ) (d : DropKey) → AreDistinct ks → i < length ks → has_key (take i ks) (get_or ks i d) ≡ false
fresh_at [] i d h lt = absurd (omega arith)
fresh_at (k ∷ ks) zero d h lt = refl
fresh_at (k ∷ ks) (suc i) d h lt =
    ap (λ b. b || has_key (take i ks) (get_or ks i d)) (none_at (is_same_key k) ks i d h.0 (omega arith)) ∙ fresh_at ks i d h.1 (omega arith)
