-- Survival from one moment to another, and what it says of each event between.
use Rattle.std.proofs.Common.{◌≡◌, ℕ, zero, suc, ◌+◌, ◌-◌, ◌^◌, ◌<◌, ◌≤◌, Bool, not, ◌||◌, List, Option, refl, ap, sym, ◌∙◌, true, false, inl, inr, arith}
use Rattle.std.specs.Prelude.{slice_get}
use Rattle.std.proofs.lemmas.Bool.{cases_Bool, not-true, not_from_false}
use Rattle.pg_event.specs.declared.control.Control.{Control}
use Rattle.pg_event.specs.declared.event.Event.{Event}
use Rattle.pg_event.specs.declared.keys.StructureKey.{StructureKey}
use Rattle.pg_event.specs.declared.keys.TranslationKey.{TranslationKey}
use Rattle.pg_event.specs.Heads.{Head}
use Rattle.pg_event.specs.Invalidation.{must_drop_structure, must_drop_translation}
use Rattle.pg_event.specs.Values.{control_at}
use Rattle.pg_event.specs.Witness.{any_from, takes_out, survives}
use Rattle.pg_inval.specs.Lists.{IsFirstDrop}
use Rattle.pg_run_of.proofs.Kept.{any_more, survives_none}
use Rattle.pg_run_of.proofs.Standing.{none_from}
use Rattle.pg_search.specs.Lasts.{stays}

-- one event more, and each event
pub more_survives : (head : Head) (all : List Event) (p : ℕ) (test : Control → Event → Bool) (from w : ℕ) → from ≤ w → stays head all p test w ≡ true →
    survives head all p test from w ≡ true → survives head all p test from (suc w) ≡ true
more_survives head all p test from w low stay h =
    let takes : ℕ → Bool = λ j. takes_out p test (control_at head all p j) (slice_get all j) in
    let there : from + (w - from) ≡ w = omega (arith, low) in
    let count : suc w - from ≡ suc (w - from) = omega (arith, low) in
    let last : takes (from + (w - from)) ≡ false = ap takes there ∙ not-true _ stay in
    let more : any_from takes from (suc (w - from)) ≡ false = any_more takes from (w - from) (not-true _ h) last in
    not_from_false _ (ap (any_from takes from) count ∙ more)

pub each_stays : (head : Head) (all : List Event) (p : ℕ) (test : Control → Event → Bool) (from to w : ℕ) → survives head all p test from to ≡ true → from ≤ w → w < to →
    stays head all p test w ≡ true
each_stays head all p test from to w h low high =
    let takes : ℕ → Bool = λ j. takes_out p test (control_at head all p j) (slice_get all j) in
    not_from_false _ (none_from takes from (to - from) w (not-true _ h) low (omega arith))

-- survival up to a first drop

any_within : (test : ℕ → Bool) (from n m : ℕ) → m ≤ n → any_from test from n ≡ false → any_from test from m ≡ false
any_within test from n zero low h = refl
any_within test from zero (suc m) low h = absurd (omega (arith, low))
any_within test from (suc n) (suc m) low h =
    let parts = or_none (test from) (any_from test (from + 1) n) h in
    rw parts.0 (any_within test (from + 1) n m (omega (arith, low)) parts.1)
  where
    or_none : (a b : Bool) → (a || b) ≡ false → (a ≡ false) × (b ≡ false)
    or_none true b h = absurd (apart h)
      where
        apart : true ≡ false → ⊥
        apart e = cc
    or_none false b h = (refl, h)

pub survives_within : (head : Head) (all : List Event) (p : ℕ) (test : Control → Event → Bool) (from to more : ℕ) → to ≤ more → survives head all p test from more ≡ true → survives head all p test from to ≡ true
survives_within head all p test from to more low h =
    let takes : ℕ → Bool = λ j. takes_out p test (control_at head all p j) (slice_get all j) in
    not_from_false _ (any_within takes from (more - from) (to - from) (omega (arith, low)) (not-true _ h))

-- what a drop takes out has not survived it
pub dropped_at : (head : Head) (all : List Event) (p : ℕ) (test : Control → Event → Bool) (from first to : ℕ) → from ≤ first → first < to → survives head all p test first (first + 1) ≡ false →
    survives head all p test from to ≡ false
dropped_at head all p test from first to low high h =
    elim (cases_Bool (survives head all p test from to)) as (λ _. survives head all p test from to ≡ false) [
      | inl t ↦
          let stay = each_stays head all p test from to first t low high in
          let now : survives head all p test first first ≡ true = survives_none head all p test first in
          let more : survives head all p test first (suc first) ≡ true = more_survives head all p test first first (omega arith) stay now in
          let next : suc first ≡ first + 1 = omega arith in
          absurd (apart (sym (ap (survives head all p test first) next) ∙ more) h)
      | inr f ↦ f
    ]
  where
    apart : {b : Bool} → b ≡ true → b ≡ false → ⊥
    apart h k = cc

-- the first event from a moment on that drops an entry

abbrev pub IsDropOf : Head → List Event → ℕ → ℕ → Option ℕ → (Control → Event → Bool) → Type 0
IsDropOf head all p from found test = IsFirstDrop (λ a b. not (survives head all p test a b)) from (2 ^ 32 - 1) found

abbrev pub IsStructureDrop : Head → List Event → ℕ → ℕ → Option ℕ → StructureKey → Type 0
IsStructureDrop head all p from found key = IsDropOf head all p from found (λ c e. must_drop_structure head.cfg.rules c e key)

abbrev pub IsTranslationDrop : Head → List Event → ℕ → ℕ → Option ℕ → TranslationKey → Type 0
IsTranslationDrop head all p from found key = IsDropOf head all p from found (λ c e. must_drop_translation head.cfg.rules c e key)
