-- Core runs keep the record accepted and all processors at home.
use Rattle.std.proofs.Common.{◌≡◌, ◌≢◌, ℕ, zero, suc, List, [], ◌∷◌, ◌++◌, refl, ap, sym, ◌∙◌, subst, Some, inl, inr}
use Rattle.std.specs.Prelude.{slice_get, slice_set}
use Rattle.std.proofs.lemmas.Bool.{cases_eq}
use Rattle.pg_event.specs.Heads.{Head}
use Rattle.pg_guest.specs.declared.advance.Advance.{Advance}
use Rattle.pg_guest.specs.Turn.{Processor, IsTurn}
use Rattle.pg_guest.specs.CoreRun.{unwritten}
use Rattle.pg_guest.specs.Home.{HasSoundCaches}
use Rattle.pg_guest.specs.Laws.{IsQuiet, AreFresh, TurnsKeepQuiet, CoreRunsKeepQuiet, CoreRunsAreAccepted, CoreRunsGoOn}
use Rattle.pg_guest.proofs.Turns.{turns_keep_home, fresh_are_at_home}

-- ---- one of the processors in another's place

set_same : (xs : List Processor) (p : ℕ) (x y z : Processor) → slice_get xs p ≡ Some x → slice_get (slice_set xs p y) p ≡ Some z → y ≡ z
set_same [] p x y z h k = absurd (cc)
set_same (a ∷ xs) zero x y z h k = cc
set_same (a ∷ xs) (suc p) x y z h k = set_same xs p x y z h k

pub set_here : (xs : List Processor) (p : ℕ) (x y : Processor) → slice_get xs p ≡ Some x → slice_get (slice_set xs p y) p ≡ Some y
set_here [] p x y h = absurd (cc)
set_here (a ∷ xs) zero x y h = refl
set_here (a ∷ xs) (suc p) x y h = set_here xs p x y h

pub set_other : (xs : List Processor) (p q : ℕ) (y : Processor) → q ≢ p → slice_get (slice_set xs p y) q ≡ slice_get xs q
set_other [] p q y away = refl
set_other (a ∷ xs) zero zero y away = absurd (away refl)
set_other (a ∷ xs) zero (suc q) y away = refl
set_other (a ∷ xs) (suc p) zero y away = refl
set_other (a ∷ xs) (suc p) (suc q) y away = set_other xs p q y (λ e. away (ap suc e))

-- what holds of the processor that had its turn, and of the others, holds of each
pub each_processor : (P : ℕ → Processor → Type 0) (xs : List Processor) (p : ℕ) (x y : Processor) → slice_get xs p ≡ Some x → P p y →
    ((q : ℕ) (z : Processor) → q ≢ p → slice_get xs q ≡ Some z → P q z) → (q : ℕ) (z : Processor) → slice_get (slice_set xs p y) q ≡ Some z → P q z
each_processor P xs p x y here own others q z h =
    elim (cases_eq q p) [
      | inl same ↦
          let h2 : slice_get (slice_set xs p y) p ≡ Some z = ap (slice_get (slice_set xs p y)) (sym same) ∙ h in
          subst (λ q. P q z) (sym same) (subst (P p) (set_same xs p x y z here h2) own)
      | inr away ↦ others q z away (sym (set_other xs p q y away) ∙ h)
    ]

-- ---- turn by turn

pub turns_keep_quiet : TurnsKeepQuiet
turns_keep_quiet r xs p x t quiet here turn =
    let keeps = turns_keep_home p r x t quiet.accepted (quiet.at_home p x here) turn in record {
      accepted = keeps.accepted;
      at_home = each_processor (λ q z. HasSoundCaches t.world.head t.world.events q z) xs p x t.processor here keeps.own (λ q z away h. keeps.others q away z (quiet.at_home q z h));
    }

pub core_runs_keep_quiet : CoreRunsKeepQuiet
core_runs_keep_quiet r xs [] answers end ys quiet run =
    subst (λ e. IsQuiet e ys) (sym run.1) (subst (λ ys. IsQuiet r ys) (sym run.2) quiet)
core_runs_keep_quiet r xs (p ∷ ps) answers end ys quiet run =
    core_runs_keep_quiet run.1.world (slice_set xs p run.1.processor) ps run.2 end ys (turns_keep_quiet r xs p run.0 run.1 quiet run.3 run.4) run.6

-- new processors are quiet before the first event
pub fresh_are_quiet : (head : Head) (xs : List Processor) → AreFresh head xs → IsQuiet (unwritten head) xs
fresh_are_quiet head xs fresh = record {
  accepted = refl;
  at_home = λ p x h. let new = fresh p x h in subst (HasSoundCaches head [] p) (sym new.1) (fresh_are_at_home head p new.0);
}

pub core_runs_are_accepted : CoreRunsAreAccepted
core_runs_are_accepted head xs ps answers end ys fresh run =
    (core_runs_keep_quiet (unwritten head) xs ps answers end ys (fresh_are_quiet head xs fresh) run).accepted

pub core_runs_go_on : CoreRunsGoOn
core_runs_go_on r xs [] answers end ys p y t run here turn = (
  y,
  t,
  [],
  ap (λ (zs : List Processor). slice_get zs p) (sym run.2) ∙ here,
  subst (λ e. IsTurn p e y t) run.1 turn,
  ap (λ (before : List Advance). before ++ t.answer ∷ []) run.0,
  (refl, refl, ap (λ (zs : List Processor). slice_set zs p t.processor) run.2),
)
core_runs_go_on r xs (q ∷ ps) answers end ys p y t run here turn = (
  run.0,
  run.1,
  run.2 ++ t.answer ∷ [],
  run.3,
  run.4,
  ap (λ (before : List Advance). before ++ t.answer ∷ []) run.5,
  core_runs_go_on run.1.world (slice_set xs q run.1.processor) ps run.2 end ys p y t run.6 here turn,
)
