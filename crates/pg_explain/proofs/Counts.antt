-- Tallies count each bad event once.
use Rattle.std.proofs.Common.{◌≡◌, ℕ, suc, ◌+◌, ◌<◌, Bool, true, false, cond, not, eqb, List, [], ◌∷◌, ◌++◌, length, map, take, get_or, refl, sym, ap, subst, ◌∙◌, arith, append-nil, inl, inr}
use Rattle.std.specs.List.{AllByRecursion, filter, sum_by}
use Rattle.std.proofs.lemmas.Bool.{cases_Bool, eqb-true}
use Rattle.std.proofs.lemmas.List.{map_push, take_more}
use Rattle.std.proofs.lemmas.List.Elements.{filter-append}
use Rattle.std.proofs.lemmas.List.Sums.{sum_by-cons}
use Rattle.pg_event.specs.declared.event.Reason.{Reason}
use Rattle.pg_event.specs.declared.event.Reason.TheVariants.{Order, Entry, Context, StructureDropped, TranslationDropped, ForeignPcid, NotAtEvent, Rights, Answer, Code, Accessed, Dirty, Assist}
use Rattle.pg_explain.specs.declared.bad_events.Bad.{Bad}
use Rattle.pg_explain.specs.declared.tallier.Tally.{Tally}
use Rattle.pg_explain.specs.Tallies.{place, reasons, has_reason, having, is_met, IsTally, AreTalliesOf, CountsAddUp}

-- how many have a reason
abbrev count_of : List Bad → Reason → ℕ
count_of xs r = length (having r xs)

-- the tallies' counts are those of their reasons
counts_are : (xs : List Bad) (ts : List Tally) → AllByRecursion (IsTally xs) ts → sum_by (λ (t : Tally). t.count) ts ≡ sum_by (count_of xs) (map (λ (t : Tally). t.reason) ts)
counts_are xs [] all = refl
counts_are xs (t ∷ ts) all =
    sum_by-cons (λ (y : Tally). y.count) t ts
    ∙ (ap (λ n. n + sum_by (λ (y : Tally). y.count) ts) all.0.count
    ∙ (ap (λ n. count_of xs t.reason + n) (counts_are xs ts all.1)
    ∙ sym (sum_by-cons (count_of xs) t.reason (map (λ (y : Tally). y.reason) ts))))

-- what no bad event has counts nothing
met_alone : (xs : List Bad) (rs : List Reason) → sum_by (count_of xs) (filter (is_met xs) rs) ≡ sum_by (count_of xs) rs
met_alone xs [] = refl
met_alone xs (r ∷ rs) =
    elim (cases_Bool (eqb (count_of xs r) 0)) [
      | inl none ↦
          ap (λ b. sum_by (count_of xs) (cond (not b) (r ∷ filter (is_met xs) rs) (filter (is_met xs) rs))) none
          ∙ (met_alone xs rs
          ∙ (let zero_is : count_of xs r ≡ 0 = eqb-true (count_of xs r) 0 none in
          omega (arith, zero_is, sum_by-cons (count_of xs) r rs)))
      | inr some ↦
          ap (λ b. sum_by (count_of xs) (cond (not b) (r ∷ filter (is_met xs) rs) (filter (is_met xs) rs))) some
          ∙ (sum_by-cons (count_of xs) r (filter (is_met xs) rs)
          ∙ (ap (λ n. count_of xs r + n) (met_alone xs rs)
          ∙ sym (sum_by-cons (count_of xs) r rs)))
    ]

-- one more bad event counts once
one_more : (g : Reason → ℕ) (q : Reason) → sum_by (λ r. cond (eqb (place q) (place r)) (suc (g r)) (g r)) reasons ≡ suc (sum_by g reasons)
one_more g Order = omega arith
one_more g Entry = omega arith
one_more g Context = omega arith
one_more g StructureDropped = omega arith
one_more g TranslationDropped = omega arith
one_more g ForeignPcid = omega arith
one_more g NotAtEvent = omega arith
one_more g Rights = omega arith
one_more g Answer = omega arith
one_more g Code = omega arith
one_more g Accessed = omega arith
one_more g Dirty = omega arith
one_more g Assist = omega arith

count_more : (b : Bool) (x : Bad) (ys : List Bad) → length (cond b (x ∷ ys) ys) ≡ cond b (suc (length ys)) (length ys)
count_more true x ys = refl
count_more false x ys = refl

sum_same : (f g : Reason → ℕ) (rs : List Reason) → ((r : Reason) → f r ≡ g r) → sum_by f rs ≡ sum_by g rs
sum_same f g [] same = refl
sum_same f g (r ∷ rs) same =
    sum_by-cons f r rs ∙ (ap (λ n. n + sum_by f rs) (same r) ∙ (ap (λ n. g r + n) (sum_same f g rs same) ∙ sym (sum_by-cons g r rs)))

each_once : (xs : List Bad) → sum_by (count_of xs) reasons ≡ length xs
each_once [] = refl
each_once (x ∷ xs) =
    sum_same (count_of (x ∷ xs)) (λ r. cond (eqb (place x.reason) (place r)) (suc (count_of xs r)) (count_of xs r)) reasons
    (λ r. count_more (has_reason r x) x (having r xs))
    ∙ (one_more (count_of xs) x.reason ∙ ap suc (each_once xs))

pub add_up : CountsAddUp
add_up xs ts are =
    counts_are xs ts are.each
    ∙ (ap (sum_by (count_of xs)) are.reasons
    ∙ (met_alone xs reasons ∙ each_once xs))

-- one more tally
pub all_more : (xs : List Bad) (ts : List Tally) (t : Tally) → AllByRecursion (IsTally xs) ts → IsTally xs t → AllByRecursion (IsTally xs) (ts ++ t ∷ [])
all_more xs [] t all is = (is, tt)
all_more xs (u ∷ ts) t all is = (all.0, all_more xs ts t all.1 is)

-- one more reason, that some bad event has, and that none has
met_next : (xs : List Bad) (rs : List Reason) (i : ℕ) (d : Reason) → i < length rs → filter (is_met xs) (take (i + 1) rs) ≡ filter (is_met xs) (take i rs) ++ cond (is_met xs (get_or rs i d)) (get_or rs i d ∷ []) []
met_next xs rs i d within = ap (filter (is_met xs)) (take_more rs i d within) ∙ filter-append (is_met xs) (take i rs) (get_or rs i d ∷ [])

pub next_met : (xs : List Bad) (rs : List Reason) (i : ℕ) (d : Reason) (ts new : List Tally) (t : Tally) → i < length rs → new ≡ ts ++ t ∷ [] → is_met xs (get_or rs i d) ≡ true → t.reason ≡ get_or rs i d → IsTally xs t →
    AreTalliesOf (take i rs) xs ts → AreTalliesOf (take (i + 1) rs) xs new
next_met xs rs i d ts new t within is met reason told are =
    let r : Reason = get_or rs i d in
    let before : List Reason = filter (is_met xs) (take i rs) in
    let reasons_of = λ (ys : List Tally). map (λ (y : Tally). y.reason) ys in
    record {
      reasons =
          ap reasons_of is ∙ map_push (λ (y : Tally). y.reason) ts t ∙ ap (λ (q : Reason). reasons_of ts ++ q ∷ []) reason ∙ ap (λ (qs : List Reason). qs ++ r ∷ []) are.reasons
          ∙ ap (λ b. before ++ cond b (r ∷ []) []) (sym met) ∙ sym (met_next xs rs i d within);
      each = subst (AllByRecursion (IsTally xs)) (sym is) (all_more xs ts t are.each told);
    }

pub next_missed : (xs : List Bad) (rs : List Reason) (i : ℕ) (d : Reason) (ts : List Tally) → i < length rs → is_met xs (get_or rs i d) ≡ false → AreTalliesOf (take i rs) xs ts → AreTalliesOf (take (i + 1) rs) xs ts
next_missed xs rs i d ts within none are =
    let r : Reason = get_or rs i d in
    let before : List Reason = filter (is_met xs) (take i rs) in
    record {
      reasons = are.reasons ∙ sym (append-nil before) ∙ ap (λ b. before ++ cond b (r ∷ []) []) (sym none) ∙ sym (met_next xs rs i d within);
      each = are.each;
    }
