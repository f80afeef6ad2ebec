-- Events up to one that is bad, or that is denied.
use Rattle.std.proofs.Common.{◌≡◌, ℕ, ◌^◌, ◌<◌, ◌≤◌, List, ◌++◌, length, map, take, drop, Option, Some, None, refl, ap, sym, ◌∙◌, arith}
use Rattle.std.specs.Option.{option_or}
use Rattle.std.proofs.lemmas.List.{length-take, take-append-drop}
use Rattle.pg_event.specs.declared.event.Event.{Event}
use Rattle.pg_event.specs.declared.event.Reason.{Reason}
use Rattle.pg_event.specs.Heads.{Head}
use Rattle.pg_event.specs.Spelling.{Recorded}
use Rattle.pg_event.specs.Witness.{first_bad, first_bad_from}
use Rattle.pg_check.specs.Kept.{AreWellFormed}
use Rattle.pg_check.proofs.Firsts.{first_bad-more}
use Rattle.pg_check.proofs.Windows.{well_between}
use Rattle.pg_run_of.specs.Law.{AcceptedEventsRun}
use Rattle.pg_run_of.specs.Converse.{without_moments}
use Rattle.pg_certify.specs.Certified.{CanBeCertified, CertifiedEventsRun, DeniedEventsHaveNoRun, IsDenied, HasRunButMoments}
use Rattle.pg_report.proofs.Bad.{bad_is_within, parts}
use Rattle.pg_answers.proofs.OneCertificate.{begins, one_event}

-- ---- bad events

-- none before the first bad event is bad
front_good : (head : Head) (events : List Event) (n : ℕ) (reason : Reason) (o : Option (ℕ × Reason)) → first_bad head (take n events) ≡ o → first_bad head events ≡ Some (n, reason) → o ≡ None
front_good head events n reason None front bad = refl
front_good head events n reason (Some found) front bad =
    let whole : first_bad head (take n events ++ drop n events) ≡ Some (n, reason) = ap (first_bad head) (take-append-drop n events) ∙ bad in
    let first : first_bad head (take n events ++ drop n events) ≡ Some found =
    first_bad-more head (take n events) (drop n events)
    ∙ ap (λ o. option_or o (first_bad_from head (take n events ++ drop n events) (length (take n events)) (drop n events))) front in
    let same : n ≡ found.0 = (parts (n, reason) found (sym whole ∙ first)).0 in
    let within : found.0 < length (take n events) = bad_is_within head (take n events) found.0 found.1 front in
    absurd (omega (arith, same, within, length-take n events))

-- some run has the events before it
pub run_before : AcceptedEventsRun → (head : Head) (events : List Event) (n : ℕ) (reason : Reason) → AreWellFormed head events → first_bad head events ≡ Some (n, reason) → HasRunButMoments head (take n events)
run_before law head events n reason well bad =
    let run = law head (take n events) (well_between head events 0 n well) (front_good head events n reason (first_bad head (take n events)) refl bad) in
    (run.0, run.1, ap (map without_moments) (sym run.2))

-- ---- denied events

module _ (r : Recorded) (well : AreWellFormed r.head r.events) where
  -- none is denied of a record that can be certified
  pub none_denied : CertifiedEventsRun → DeniedEventsHaveNoRun → length r.events < 2 ^ 32 → CanBeCertified r.head r.events → (d : ℕ) → IsDenied r.head r.events d → ⊥
  none_denied runs denies few certified d denied =
      let run = runs r.head r.events certified.0 well certified.1 in
      (denies r.head r.events d well (omega (arith, few)) denied).0 (begins r.head r.events d run)

-- none is denied up to an event where one behind it is
pub none_up_to : (r : Recorded) (n d : ℕ) → IsDenied r.head r.events d → n < d → (e : ℕ) → e ≤ n → IsDenied r.head r.events e → ⊥
none_up_to r n d denied behind e le other =
    let same : e ≡ d = one_event r.head r.events e d other denied in
    omega (arith, same, le, behind)
