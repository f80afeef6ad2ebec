-- What the first event that drops a translation says of an access.
use Rattle.std.proofs.Common.{◌≡◌, ℕ, ◌+◌, ◌-◌, ◌<◌, ◌≤◌, Bool, true, false, not, cond, nat_lt, List, Option, Some, None, MatchOption, ◌⊎◌, inl, inr, refl, sym, ap, subst, ◌∙◌, arith}
use Rattle.std.specs.Option.{is_some}
use Rattle.std.proofs.lemmas.Bool.{ltb-true, lt-ltb, false≢true, false_from_ne_true, cases_lt}
use Rattle.pg_event.specs.declared.event.Event.{Event}
use Rattle.pg_event.specs.Heads.{Head}
use Rattle.std.specs.Prelude.{slice_get}
use Rattle.pg_event.specs.declared.keys.TranslationKey.{TranslationKey}
use Rattle.pg_event.specs.Invalidation.{translation_key, must_drop_translation}
use Rattle.pg_event.specs.Values.{control_at}
use Rattle.pg_event.specs.Witness.{any_from, takes_out}
use Rattle.pg_entry.specs.declared.Kind.{Kind}
use Rattle.pg_entry.specs.declared.Kind.TheVariants.{Leaf, Table, Absent, Reserved}
use Rattle.pg_inval.specs.Lists.{IsFirstDrop}
use Rattle.pg_check.specs.declared.lasting.Lasting.{Lasting}
use Rattle.pg_check.specs.Lasting.{LastsTo, IsAsked, IsDroppedAt}
use Rattle.pg_inval.proofs.AnyFrom.{same_truth, not-not, any_from-at, any_from-passes}

-- whether a number of a window passes a test, said twice not
abbrev passes_in : (ℕ → Bool) → ℕ → ℕ → Bool
passes_in test a b = not (not (any_from test a (b - a)))

-- no number of a window passes, if none of a longer one does
pub none_shorter : (test : ℕ → Bool) (from to number : ℕ) → number ≤ to → passes_in test from to ≡ false → false ≡ any_from test from (number - from)
none_shorter test from to number within none =
    sym (false_from_ne_true (any_from test from (number - from)) (λ passes.
    let r = any_from-passes test from (number - from) passes in
    let low : from ≤ r.at = r.low in
    let high : r.at < from + (number - from) = r.high in
    let longer : any_from test from (to - from) ≡ true = any_from-at test from (to - from) r.at low (omega arith) r.passes in
    false≢true (sym none ∙ not-not (any_from test from (to - from)) ∙ longer)))

-- the first number that passes lies below another, or no number below that one passes
pub first_below : (test : ℕ → Bool) (from to number m : ℕ) → IsFirstDrop (passes_in test) from to (Some m) → nat_lt m number ≡ any_from test from (number - from)
first_below test from to number m first =
    let low : from ≤ m = first.0 in
    let r = any_from-passes test m (m + 1 - m) (sym (not-not (any_from test m (m + 1 - m))) ∙ first.3) in
    let here : r.at ≡ m = omega (arith, r.low, r.high) in
    same_truth (nat_lt m number) (any_from test from (number - from))
    (λ below.
    let lt : m < number = ltb-true m number below in
    any_from-at test from (number - from) r.at (omega arith) (omega arith) r.passes)
    (λ passes.
    let s = any_from-passes test from (number - from) passes in
    let start : from ≤ s.at = s.low in
    let end : s.at < from + (number - from) = s.high in
    elim (cases_lt m number) [
      | inl lt ↦ lt-ltb m number lt
      | inr ge ↦
          let before : any_from test from (m - from) ≡ true = any_from-at test from (m - from) s.at start (omega arith) s.passes in
          absurd (false≢true (sym first.2 ∙ not-not (any_from test from (m - from)) ∙ before))
    ])

-- no number of two windows passes, where one begins at the end of the other
none_joined : (test : ℕ → Bool) (from middle to : ℕ) → passes_in test from middle ≡ false → passes_in test middle to ≡ false → passes_in test from to ≡ false
none_joined test from middle to before after =
    not-not (any_from test from (to - from))
    ∙ false_from_ne_true (any_from test from (to - from)) (λ passes.
    let r = any_from-passes test from (to - from) passes in
    let low : from ≤ r.at = r.low in
    let high : r.at < from + (to - from) = r.high in
    elim (cases_lt r.at middle) [
      | inl lt ↦
          let early : any_from test from (middle - from) ≡ true = any_from-at test from (middle - from) r.at low (omega arith) r.passes in
          false≢true (sym before ∙ not-not (any_from test from (middle - from)) ∙ early)
      | inr ge ↦
          let late : any_from test middle (to - middle) ≡ true = any_from-at test middle (to - middle) r.at ge (omega arith) r.passes in
          false≢true (sym after ∙ not-not (any_from test middle (to - middle)) ∙ late)
    ])

-- the first number that passes from a later one on is the first of all, where none before it passes
pub first_joined : (test : ℕ → Bool) (from middle to : ℕ) (found : Option ℕ) → from ≤ middle → passes_in test from middle ≡ false →
    IsFirstDrop (passes_in test) middle to found → IsFirstDrop (passes_in test) from to found
first_joined test from middle to None le before first = none_joined test from middle to before first
first_joined test from middle to (Some m) le before first =
    let low : middle ≤ m = first.0 in
    (omega arith, first.1, none_joined test from middle m before first.2, first.3)

-- nothing is said of an end that gives no translation
pub nothing_lasts : (head : Head) (events : List Event) (p la : ℕ) (l : Lasting) (k : Kind) →
    ((x : ℕ) × (k ≡ Table x)) ⊎ ((k ≡ Absent) ⊎ (k ≡ Reserved)) → LastsTo head events p la l k
nothing_lasts head events p la l k (inl (x, e)) = subst (λ (j : Kind). LastsTo head events p la l j) (sym e) tt
nothing_lasts head events p la l k (inr (inl e)) = subst (λ (j : Kind). LastsTo head events p la l j) (sym e) tt
nothing_lasts head events p la l k (inr (inr e)) = subst (λ (j : Kind). LastsTo head events p la l j) (sym e) tt

-- no number lies in a window that ends where it begins
pub none_at_once : (test : ℕ → Bool) (from : ℕ) → passes_in test from from ≡ false
none_at_once test from = let none : from - from ≡ 0 = omega arith in ap (λ n. not (not (any_from test from n))) none

-- the first number that passes, of those below an earlier end
pub none_before : (test : ℕ → Bool) (from to end : ℕ) → to ≤ end → passes_in test from end ≡ false → passes_in test from to ≡ false
none_before test from to end within none = not-not (any_from test from (to - from)) ∙ sym (none_shorter test from end to within none)

-- whether the event with a number drops a translation
abbrev pub drops_at : Head → List Event → ℕ → TranslationKey → ℕ → Bool
drops_at head events p key j = takes_out p (λ c e. must_drop_translation head.cfg.rules c e key) (control_at head events p j) (slice_get events j)

-- nothing drops it at once
pub not_yet : (head : Head) (events : List Event) (p : ℕ) (key : TranslationKey) (moment : ℕ) → IsDroppedAt head events p key moment moment None
not_yet head events p key moment = none_at_once (drops_at head events p key) moment

-- it is known of each event up to which that was asked
pub asked_so_far : (l : Lasting) (number to : ℕ) → number ≤ to → l.asked ≡ to → IsAsked number l
asked_so_far l number to h e = go l.dropped
  where
    go : (found : Option ℕ) → MatchOption found (number ≤ l.asked) (λ first. Unit {0})
    go None = omega (arith, h, e)
    go (Some first) = tt

-- nothing drops a translation up to a later number either, where it outlasts what is between
pub lasts_on : (test : ℕ → Bool) (from middle to : ℕ) (found : Option ℕ) → found ≡ None → IsFirstDrop (passes_in test) from middle found → not (any_from test middle (to - middle)) ≡ true →
    passes_in test from to ≡ false
lasts_on test from middle to found none before stands =
    none_joined test from middle to (subst (λ (d : Option ℕ). IsFirstDrop (passes_in test) from middle d) none before) (ap not stands)

pub none_there : (found : Option ℕ) → is_some found ≡ false → found ≡ None
none_there None h = refl
none_there (Some m) h = absurd (false≢true (sym h))

-- the first number that passes, if one does, and a window that ends behind it
abbrev pub last_of : ℕ → Option ℕ → Option ℕ
last_of asked found = cond (is_some found) (Some (asked - 1)) None

first_of_window : (test : ℕ → Bool) (from to asked : ℕ) (found : Option ℕ) → (found ≡ None → asked ≡ to) → ((m : ℕ) → found ≡ Some m → m < to → asked ≡ m + 1) →
    IsFirstDrop (passes_in test) from to found → IsFirstDrop (passes_in test) from asked (last_of asked found)
first_of_window test from to asked None none some first = subst (λ (n : ℕ). passes_in test from n ≡ false) (sym (none refl)) first
first_of_window test from to asked (Some m) none some first =
    let next : asked ≡ m + 1 = some m refl first.1 in
    let last : asked - 1 ≡ m = omega (arith, next) in
    subst (λ (n : ℕ). (from ≤ n) × (n < asked) × (passes_in test from n ≡ false) × (passes_in test n (n + 1) ≡ true)) (sym last)
    (first.0, omega (arith, next), first.2, first.3)

-- the same walk, asked up to the event that drops its translation
abbrev pub asked_to : ℕ → Lasting → Lasting
asked_to asked l = record { chain = l.chain; global = l.global; asked = asked; dropped = last_of asked l.dropped }

pub lasts_shorter : (head : Head) (events : List Event) (p la asked : ℕ) (l : Lasting) → (l.dropped ≡ None → asked ≡ l.asked) → ((m : ℕ) → l.dropped ≡ Some m → m < l.asked → asked ≡ m + 1) →
    (k : Kind) → LastsTo head events p la l k → LastsTo head events p la (asked_to asked l) k
lasts_shorter head events p la asked l none some (Leaf frame shift global_bit) lasts =
    (lasts.0, first_of_window (drops_at head events p (translation_key l.chain.pcid shift l.global la)) l.chain.end.moment l.asked asked l.dropped none some lasts.1)
lasts_shorter head events p la asked l none some (Table addr) lasts = tt
lasts_shorter head events p la asked l none some Absent lasts = tt
lasts_shorter head events p la asked l none some Reserved lasts = tt
