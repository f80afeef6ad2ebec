-- What survives from a moment up to another.
use Rattle.std.proofs.Common.{◌≡◌, ℕ, zero, suc, ◌+◌, ◌-◌, ◌≤◌, ◌<◌, Bool, List, true, false, inl, inr, subst, arith}
use Rattle.std.proofs.lemmas.Bool.{cases_Bool}
use Rattle.pg_event.specs.declared.control.Control.{Control}
use Rattle.pg_event.specs.declared.event.Event.{Event}
use Rattle.pg_event.specs.Invalidation.{structure_key, must_drop_structure}
use Rattle.pg_event.specs.Heads.{Head}
use Rattle.pg_event.specs.Spelling.{Recorded}
use Rattle.pg_event.specs.Witness.{survives}
use Rattle.pg_entry.specs.declared.Level.{Level}
use Rattle.pg_run_of.proofs.Kept.{survives_none}
use Rattle.pg_search.specs.Lasts.{stays}
use Rattle.pg_search.proofs.Survival.{survives_within, more_survives, each_stays}
use Rattle.pg_reach.specs.declared.walker.Walker.{Walker}
use Rattle.pg_reach.specs.Reaching.{structure_lasts}

-- what survives from a moment survives from a later one
later_by : (head : Head) (all : List Event) (p : ℕ) (test : Control → Event → Bool) (later n : ℕ) → ((j : ℕ) → later ≤ j → j < later + n → stays head all p test j ≡ true) → survives head all p test later (later + n) ≡ true
later_by head all p test later zero h =
    let e : later ≡ later + 0 = omega arith in subst (λ w. survives head all p test later w ≡ true) e (survives_none head all p test later)
later_by head all p test later (suc n) h =
    let e : suc (later + n) ≡ later + suc n = omega arith in
    subst (λ w. survives head all p test later w ≡ true) e
    (more_survives head all p test later (later + n) (omega arith) (h (later + n) (omega arith) (omega arith)) (later_by head all p test later n (λ j low lt. h j low (omega (arith, lt)))))

pub survives_later : (head : Head) (all : List Event) (p : ℕ) (test : Control → Event → Bool) (from later to : ℕ) → from ≤ later → later ≤ to → survives head all p test from to ≡ true → survives head all p test later to ≡ true
survives_later head all p test from later to low high h =
    let e : later + (to - later) ≡ to = omega (arith, high) in
    subst (λ w. survives head all p test later w ≡ true) e
    (later_by head all p test later (to - later) (λ j above lt. each_stays head all p test from to j h (omega (arith, low, above)) (omega (arith, e, lt))))

pub lasts_now : (r : Recorded) (v : Walker) (level : Level) (w : ℕ) → structure_lasts r v level w w ≡ true
lasts_now r v level w = survives_none r.head r.events v.p (λ c e. must_drop_structure r.head.cfg.rules c e (structure_key v.pcid level v.la)) w

pub lasts_within : (r : Recorded) (v : Walker) (level : Level) (from to more : ℕ) → to ≤ more → structure_lasts r v level from more ≡ true → structure_lasts r v level from to ≡ true
lasts_within r v level from to more low h = survives_within r.head r.events v.p (λ c e. must_drop_structure r.head.cfg.rules c e (structure_key v.pcid level v.la)) from to more low h

pub lasts_from : (r : Recorded) (v : Walker) (level : Level) (from later to : ℕ) → from ≤ later → later ≤ to → structure_lasts r v level from to ≡ true → structure_lasts r v level later to ≡ true
lasts_from r v level from later to low high h = survives_later r.head r.events v.p (λ c e. must_drop_structure r.head.cfg.rules c e (structure_key v.pcid level v.la)) from later to low high h

-- what does not survive from a moment does not from one before it
pub not_before : (head : Head) (all : List Event) (p : ℕ) (test : Control → Event → Bool) (w later to : ℕ) → w ≤ later → later ≤ to → survives head all p test later to ≡ false → survives head all p test w to ≡ false
not_before head all p test w later to low high none =
    elim (cases_Bool (survives head all p test w to)) as (λ _. survives head all p test w to ≡ false) [
      | inl t ↦ absurd (apart (survives_later head all p test w later to low high t) none)
      | inr f ↦ f
    ]
  where
    apart : {b : Bool} → b ≡ true → b ≡ false → ⊥
    apart h k = cc
