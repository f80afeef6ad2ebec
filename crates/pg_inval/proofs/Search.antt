-- Where a search of a log ends, whose moments rise.
use Rattle.std.proofs.Common.{◌≡◌, ℕ, zero, suc, length, take, drop, get_or, ◌+◌, ◌<◌, ◌≤◌, Bool, true, false, ◌&&◌, ◌||◌, nat_eq, Some, None, List, [], ◌∷◌, refl, ap, sym, subst, ◌∙◌, add-one, arith, inl, inr}
use Rattle.std.specs.List.{slice_get}
use Rattle.std.proofs.lemmas.Bool.{cases_Bool, false≢true, eqb-true, eq-eqb, and_from, or_right, or_left, false_from_ne_true}
use Rattle.std.proofs.lemmas.Option.{none-some, same_Some}
use Rattle.pg_inval.specs.declared.key.DropKey.{DropKey}
use Rattle.pg_inval.specs.declared.log.LogEntry.{LogEntry}
use Rattle.pg_inval.specs.Keys.{has_key}
use Rattle.pg_inval.specs.Lists.{has_drop, IsRisingFrom, AreBefore, IsLeastBetween}
use Rattle.pg_inval.proofs.AnyFrom.{neither}
use Rattle.pg_inval.proofs.Logs.{keys_at, has_drop-parts, IsRisingFrom-less}

-- ---- the entries below a moment

-- those up to one that is below it
taken-below : (n i w : ℕ) (log : List LogEntry) (d : LogEntry) → IsRisingFrom n log → i < length log → (get_or log i d).moment < w → AreBefore w (take (suc i) log) × (n < w)
taken-below n i w [] d rising lt below = absurd (omega arith)
taken-below n zero w (e ∷ es) d rising lt below =
    let first : n ≤ e.moment = rising.0 in
    ((below, tt), omega (arith, first, below))
taken-below n (suc i) w (e ∷ es) d rising lt below =
    let first : n ≤ e.moment = rising.0 in
    let rest = taken-below (e.moment + 1) i w es d rising.1 (omega arith) below in
    let here : e.moment + 1 < w = rest.1 in
    ((omega (arith, here), rest.0), omega (arith, here, first))

-- those from one on that is not below it
dropped-rising : (n i w : ℕ) (log : List LogEntry) (d : LogEntry) → IsRisingFrom n log → i < length log → w ≤ (get_or log i d).moment → IsRisingFrom w (drop i log)
dropped-rising n i w [] d rising lt above = absurd (omega arith)
dropped-rising n zero w (e ∷ es) d rising lt above = (above, rising.1)
dropped-rising n (suc i) w (e ∷ es) d rising lt above = dropped-rising (e.moment + 1) i w es d rising.1 (omega arith) above

-- those before low are below a moment, and those from high on are not
pub record Halved (log : List LogEntry) (w low high : ℕ) : Type 0 where
  pub order : low ≤ high
  pub within : high ≤ length log
  pub below : AreBefore w (take low log)
  pub rest : IsRisingFrom w (drop high log)

pub halving-right : (log : List LogEntry) (w low high middle : ℕ) (d : LogEntry) → IsRisingFrom 0 log → Halved log w low high → middle < high → (get_or log middle d).moment < w → Halved log w (middle + 1) high
halving-right log w low high middle d rising h lt below =
    let within : high ≤ length log = h.within in
    record {
      order = omega arith;
      within = within;
      below = subst (λ (i : ℕ). AreBefore w (take i log)) (sym (add-one middle)) (taken-below 0 middle w log d rising (omega arith) below).0;
      rest = h.rest;
    }

pub halving-left : (log : List LogEntry) (w low high middle : ℕ) (d : LogEntry) → IsRisingFrom 0 log → Halved log w low high → low ≤ middle → middle < high → w ≤ (get_or log middle d).moment → Halved log w low middle
halving-left log w low high middle d rising h le lt above =
    let within : high ≤ length log = h.within in
    record {
      order = le;
      within = omega arith;
      below = h.below;
      rest = dropped-rising 0 middle w log d rising (omega arith) above;
    }

-- the rest of a log that rises
pub IsRisingFrom-drop : (n i : ℕ) (log : List LogEntry) → IsRisingFrom n log → IsRisingFrom n (drop i log)
IsRisingFrom-drop n zero log rising = rising
IsRisingFrom-drop n (suc i) [] rising = tt
IsRisingFrom-drop n (suc i) (e ∷ es) rising =
    let first : n ≤ e.moment = rising.0 in
    IsRisingFrom-less n (e.moment + 1) (drop i es) (omega (arith, first)) (IsRisingFrom-drop (e.moment + 1) i es rising.1)

-- ---- where a key has no moment

unlike : (m j : ℕ) (b : Bool) → (m ≡ j → ⊥) → (nat_eq m j && b) ≡ false
unlike m j b h = ap (λ x. x && b) (false_from_ne_true (nat_eq m j) (λ e. h (eqb-true m j e)))

-- before all entries
pub has_drop-early : (n : ℕ) (log : List LogEntry) (k : DropKey) (j : ℕ) → IsRisingFrom n log → j < n → has_drop log k j ≡ false
has_drop-early n [] k j rising lt = refl
has_drop-early n (e ∷ es) k j rising lt =
    let first : n ≤ e.moment = rising.0 in
    neither _ (has_drop es k j) (unlike e.moment j _ (λ same. absurd (omega (arith, same, first, lt))))
    (has_drop-early (e.moment + 1) es k j rising.1 (omega (arith, first, lt)))

-- after all of them
pub has_drop-late : (n : ℕ) (log : List LogEntry) (k : DropKey) (j : ℕ) → AreBefore n log → n ≤ j → has_drop log k j ≡ false
has_drop-late n [] k j before le = refl
has_drop-late n (e ∷ es) k j before le =
    let below : e.moment < n = before.0 in
    neither _ (has_drop es k j) (unlike e.moment j _ (λ same. absurd (omega (arith, same, below, le))))
    (has_drop-late n es k j before.1 le)

-- what a key has among the first entries is before all that it has among the others
pub has_drop-after : (n i : ℕ) (log : List LogEntry) (k : DropKey) (m j : ℕ) → IsRisingFrom n log → has_drop (take i log) k m ≡ true → j ≤ m → has_drop (drop i log) k j ≡ false
has_drop-after n zero log k m j rising has le = absurd (false≢true has)
has_drop-after n (suc i) [] k m j rising has le = absurd (false≢true has)
has_drop-after n (suc i) (e ∷ es) k m j rising has le =
    elim (cases_Bool (nat_eq e.moment m)) [
      | inl here ↦
          let same : e.moment ≡ m = eqb-true e.moment m here in
          has_drop-early (e.moment + 1) (drop i es) k j (IsRisingFrom-drop (e.moment + 1) i es rising.1) (omega (arith, same, le))
      | inr other ↦
          has_drop-after (e.moment + 1) i es k m j rising.1
          (sym (ap (λ b. (b && has_key (keys_at e) k) || has_drop (take i es) k m) other) ∙ has) le
    ]

-- the entries from the first on that is not below a moment have what the log has from it on
pub has_drop-from : (n w : ℕ) (log : List LogEntry) (k : DropKey) (j : ℕ) → AreBefore w (take n log) → w ≤ j → has_drop (drop n log) k j ≡ has_drop log k j
has_drop-from n w log k j before le =
    ap (λ b. b || has_drop (drop n log) k j) (sym (has_drop-late w (take n log) k j before le)) ∙ has_drop-parts log k n j

-- ---- the first entry that has a key

found_at : (e : LogEntry) (es : List LogEntry) (k : DropKey) → has_key (keys_at e) k ≡ true → has_drop (e ∷ es) k e.moment ≡ true
found_at e es k has = or_left _ (has_drop es k e.moment) (and_from (nat_eq e.moment e.moment) (has_key (keys_at e) k) (eq-eqb e.moment e.moment refl) has)

-- the entries that rise from one on, at a place
rest_at : (n i : ℕ) (log : List LogEntry) (e : LogEntry) → IsRisingFrom n log → slice_get log i ≡ Some e → (n ≤ e.moment) × IsRisingFrom e.moment (drop i log) × ((k : DropKey) → has_key (keys_at e) k ≡ true → has_drop (drop i log) k e.moment ≡ true)
rest_at n i [] e rising at = absurd (none-some e at)
rest_at n zero (x ∷ xs) e rising at =
    subst (λ (y : LogEntry). (n ≤ y.moment) × IsRisingFrom y.moment (x ∷ xs) × ((k : DropKey) → has_key (keys_at y) k ≡ true → has_drop (x ∷ xs) k y.moment ≡ true))
    (same_Some x e at) (rising.0, (omega arith, rising.1), found_at x xs)
rest_at n (suc i) (x ∷ xs) e rising at =
    let first : n ≤ x.moment = rising.0 in
    let rest = rest_at (x.moment + 1) i xs e rising.1 at in
    let low : x.moment + 1 ≤ e.moment = rest.0 in
    (omega (arith, first, low), rest.1, rest.2)

-- it is the least
pub least-found : (from to i : ℕ) (log : List LogEntry) (k : DropKey) (e : LogEntry) → IsRisingFrom from log → slice_get log i ≡ Some e → e.moment < to →
    ((j : ℕ) → has_drop (take i log) k j ≡ false) → has_key (keys_at e) k ≡ true → IsLeastBetween (has_drop log k) from to (Some e.moment)
least-found from to i log k e rising at below without has =
    let rest = rest_at from i log e rising at in (
      rest.0,
      below,
      sym (has_drop-parts log k i e.moment) ∙ or_right (has_drop (take i log) k e.moment) _ (rest.2 k has),
      λ j low high. sym (has_drop-parts log k i j) ∙ neither _ _ (without j) (has_drop-early e.moment (drop i log) k j rest.1 high),
    )

-- where the entries end before the window does, or the first that is not passed over is after it
pub least-past : (from to i : ℕ) (log : List LogEntry) (k : DropKey) → ((j : ℕ) → has_drop (take i log) k j ≡ false) → IsRisingFrom to (drop i log) → IsLeastBetween (has_drop log k) from to None
least-past from to i log k without late = λ j low high.
    sym (has_drop-parts log k i j) ∙ neither _ _ (without j) (has_drop-early to (drop i log) k j late high)

pub rising_at : (n i to : ℕ) (log : List LogEntry) (e : LogEntry) → IsRisingFrom n log → slice_get log i ≡ Some e → to ≤ e.moment → IsRisingFrom to (drop i log)
rising_at n i to log e rising at above = IsRisingFrom-less to e.moment (drop i log) above (rest_at n i log e rising at).1
