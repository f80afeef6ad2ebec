-- Events that come later change nothing that is said of earlier moments.
use Rattle.std.proofs.Common.{◌≡◌, ℕ, zero, suc, ◌+◌, ◌-◌, ◌<◌, ◌≤◌, ◌==◌, Bool, List, [], ◌∷◌, ◌++◌, length, take, refl, ap, sym, ◌∙◌, true, false, inl, inr, ◌&&◌, arith, Some}
use Rattle.std.specs.Prelude.{fold, slice_get}
use Rattle.std.proofs.lemmas.Bool.{or_parts, or_from, not_from_false, not-true, cases_eq}
use Rattle.std.proofs.lemmas.List.{take-append-le, length_push, take_all}
use Rattle.std.proofs.lemmas.List.Sums.{fold_push}
use Rattle.pg_event.specs.declared.control.Control.{Control}
use Rattle.pg_event.specs.declared.event.Event.{Event}
use Rattle.pg_event.specs.Heads.{Head}
use Rattle.pg_event.specs.Form.{processor_of}
use Rattle.pg_event.specs.Values.{written, controlled, started, mem_at, control_at}
use Rattle.pg_event.specs.Witness.{any_from, takes_out, survives}

pub mem_longer : (es rest : List Event) (w a : ℕ) → w ≤ length es → mem_at (es ++ rest) w a ≡ mem_at es w a
mem_longer es rest w a h = ap (fold (written a) 0) (take-append-le w es rest h)

pub control_longer : (head : Head) (es rest : List Event) (p w : ℕ) → w ≤ length es → control_at head (es ++ rest) p w ≡ control_at head es p w
control_longer head es rest p w h = ap (fold (controlled head.cfg.m p) (started head.cfg.m (slice_get head.processors p))) (take-append-le w es rest h)

-- the control registers after one more event
pub control_pushed : (head : Head) (es : List Event) (e : Event) (p : ℕ) → control_at head (es ++ e ∷ []) p (length (es ++ e ∷ [])) ≡ controlled head.cfg.m p (control_at head es p (length es)) e
control_pushed head es e p =
    let start : Control = started head.cfg.m (slice_get head.processors p) in
    let step : Control → Event → Control = controlled head.cfg.m p in
    let all : take (length (es ++ e ∷ [])) (es ++ e ∷ []) ≡ es ++ e ∷ [] = take_all (length (es ++ e ∷ [])) (es ++ e ∷ []) (omega arith) in
    let before : take (length es) es ≡ es = take_all (length es) es (omega arith) in
    ap (fold step start) all ∙ fold_push step start es e ∙ ap (λ fs. step (fold step start fs) e) (sym before)

get_longer : {X : Type 0} (es rest : List X) (j : ℕ) → j < length es → slice_get (es ++ rest) j ≡ slice_get es j
get_longer [] rest j h = absurd (omega arith)
get_longer (e ∷ es) rest zero h = refl
get_longer (e ∷ es) rest (suc j) h = get_longer es rest j (omega arith)

pub get_earlier : (es rest : List Event) (j : ℕ) → j < length es → slice_get (es ++ rest) j ≡ slice_get es j
get_earlier es rest j h = get_longer es rest j h

pub get_pushed : {X : Type 0} (es : List X) (e : X) → slice_get (es ++ e ∷ []) (length es) ≡ Some e
get_pushed [] e = refl
get_pushed (x ∷ es) e = get_pushed es e

-- a test that holds of none of a range does not hold of one in it
none_from : (test : ℕ → Bool) (from n j : ℕ) → any_from test from n ≡ false → from ≤ j → j < from + n → test j ≡ false
none_from test from zero j h le lt = absurd (omega arith)
none_from test from (suc n) j h le lt =
    let parts = or_parts _ _ h in
    elim (cases_eq from j) [
      | inl e ↦ ap test (sym e) ∙ parts.0
      | inr ne ↦ none_from test (from + 1) n j parts.1 (omega (arith, ne)) (omega arith)
    ]

none_in : (test : ℕ → Bool) (from n : ℕ) → ((j : ℕ) → from ≤ j → j < from + n → test j ≡ false) → any_from test from n ≡ false
none_in test from zero h = refl
none_in test from (suc n) h =
    or_from _ _ (h from (omega arith) (omega arith)) (none_in test (from + 1) n (λ j le lt. h j (omega arith) (omega arith)))

survives_parts : (head : Head) (es : List Event) (p : ℕ) (test : Control → Event → Bool) (from to j : ℕ) →
    survives head es p test from to ≡ true → from ≤ j → j < to → takes_out p test (control_at head es p j) (slice_get es j) ≡ false
survives_parts head es p test from to j h le lt =
    none_from (λ j. takes_out p test (control_at head es p j) (slice_get es j)) from (to - from) j (not-true _ h) le (omega arith)

survives_by : (head : Head) (es : List Event) (p : ℕ) (test : Control → Event → Bool) (from to : ℕ) →
    ((j : ℕ) → from ≤ j → j < to → takes_out p test (control_at head es p j) (slice_get es j) ≡ false) → survives head es p test from to ≡ true
survives_by head es p test from to h =
    not_from_false _ (none_in (λ j. takes_out p test (control_at head es p j) (slice_get es j)) from (to - from) (λ j le lt. h j le (omega arith)))

pub survives_now : (head : Head) (es : List Event) (p : ℕ) (test : Control → Event → Bool) (w : ℕ) → survives head es p test w w ≡ true
survives_now head es p test w = survives_by head es p test w w (λ j le lt. absurd (omega arith))

takes_longer : (head : Head) (es rest : List Event) (p : ℕ) (test : Control → Event → Bool) (j : ℕ) → j < length es →
    takes_out p test (control_at head (es ++ rest) p j) (slice_get (es ++ rest) j) ≡ takes_out p test (control_at head es p j) (slice_get es j)
takes_longer head es rest p test j lt =
    ap (λ c. takes_out p test c (slice_get (es ++ rest) j)) (control_longer head es rest p j (omega arith))
    ∙ ap (takes_out p test (control_at head es p j)) (get_earlier es rest j lt)

-- up to a moment that has been
pub survives_longer : (head : Head) (es rest : List Event) (p : ℕ) (test : Control → Event → Bool) (from to : ℕ) → to ≤ length es →
    survives head es p test from to ≡ true → survives head (es ++ rest) p test from to ≡ true
survives_longer head es rest p test from to past h =
    survives_by head (es ++ rest) p test from to (λ j le lt.
    takes_longer head es rest p test j (omega arith) ∙ survives_parts head es p test from to j h le lt)

-- up to the present, over an event that does not take it out
pub survives_event : (head : Head) (es : List Event) (e : Event) (p : ℕ) (test : Control → Event → Bool) (from : ℕ) →
    survives head es p test from (length es) ≡ true → (processor_of e == p && test (control_at head es p (length es)) e) ≡ false →
    survives head (es ++ e ∷ []) p test from (length (es ++ e ∷ [])) ≡ true
survives_event head es e p test from h spared =
    survives_by head (es ++ e ∷ []) p test from (length (es ++ e ∷ [])) (λ j le lt.
    elim (cases_eq j (length es)) [
      | inl here ↦
          ap (λ j. takes_out p test (control_at head (es ++ e ∷ []) p j) (slice_get (es ++ e ∷ []) j)) here
          ∙ ap (takes_out p test (control_at head (es ++ e ∷ []) p (length es))) (get_pushed es e)
          ∙ ap (λ c. takes_out p test c (Some e)) (control_longer head es (e ∷ []) p (length es) (omega arith)) ∙ spared
      | inr away ↦
          let lt2 : j < length es = omega (arith, length_push es e) in
          takes_longer head es (e ∷ []) p test j lt2 ∙ survives_parts head es p test from (length es) j h le lt2
    ])
