-- What an answer means for runs of the machine.
use Rattle.std.proofs.Common.{◌≡◌, ℕ, zero, suc, ◌-◌, ◌^◌, ◌<◌, ◌≤◌, List, [], ◌∷◌, length, refl, ap, sym, ◌∙◌, subst, arith, take, take_all, map}
use Rattle.std.specs.Prelude.{slice_get}
use Rattle.std.proofs.lemmas.List.{length-take, length-map, take-take}
use Rattle.pg_event.specs.declared.event.Event.{Event}
use Rattle.pg_event.specs.Heads.{Head}
use Rattle.pg_event.specs.Witness.{Accepted}
use Rattle.pg_event.proofs.Alike.{same_judged}
use Rattle.pg_check.specs.Kept.{AreWellFormed}
use Rattle.pg_machine.specs.declared.step.Step.{Step}
use Rattle.pg_machine.specs.Machine.{visible}
use Rattle.pg_run_of.specs.Converse.{without_moments, AreSameButMoments}
use Rattle.pg_run_of.proofs.Whole.{accepted_events_run}
use Rattle.pg_run_of.proofs.Converse.{runs_are_accepted}
use Rattle.pg_run_of.proofs.Moments.{judged_alike, well_same}
use Rattle.pg_search.specs.Law.{CanBeWitnessed, UnwitnessedEventsHaveNoRun}
use Rattle.pg_certify.specs.Certified.{IsCertified, CanBeCertified, HasRunButMoments, CertifiedEventsRun, DeniedEventsHaveNoRun, CertifiedExactlyWhereARunExists}
use Rattle.pg_certify.proofs.Gathered.{Good, gathered}
use Rattle.pg_certify.proofs.Founds.{can_good}

-- the form of events reads no moments
well_alike : (head : Head) (xs ys : List Event) → AreSameButMoments xs ys → AreWellFormed head ys → AreWellFormed head xs
well_alike head [] ys same well = tt
well_alike head (x ∷ xs) [] same well = absurd (cc)
well_alike head (x ∷ xs) (y ∷ ys) same well =
    let first : without_moments x ≡ without_moments y = cc in
    let rest : map without_moments xs ≡ map without_moments ys = cc in
    (well_same head x y first well.0, well_alike head xs ys rest well.1)

accepted_alike_run : (head : Head) (events found : List Event) → AreWellFormed head events → AreSameButMoments found events → Accepted head found → HasRunButMoments head events
accepted_alike_run head events found well same good =
    let run = accepted_events_run head found (well_alike head found events same well) good in
    (run.0, run.1, sym same ∙ ap (map without_moments) (sym run.2))

pub certified_events_run : CertifiedEventsRun
certified_events_run head events found well h = accepted_alike_run head events found well h.same h.good

front_well : (head : Head) (events : List Event) (n : ℕ) → AreWellFormed head events → AreWellFormed head (take n events)
front_well head [] zero well = tt
front_well head [] (suc n) well = tt
front_well head (e ∷ es) zero well = tt
front_well head (e ∷ es) (suc n) well = (well.0, front_well head es n well.1)

got : (xs : List Event) (j n : ℕ) → j < n → slice_get (take n xs) j ≡ slice_get xs j
got [] j zero lt = refl
got [] j (suc n) lt = refl
got (x ∷ xs) j zero lt = absurd (omega (arith, lt))
got (x ∷ xs) zero (suc n) lt = refl
got (x ∷ xs) (suc j) (suc n) lt = got xs j n (omega (arith, lt))

-- an event of the front is judged there as among all
front_good : (head : Head) (events : List Event) (n k : ℕ) → k < n → (x : Event) → Good (λ y. Unit {0}) head events k x → Good (λ y. Unit {0}) head (take n events) k x
front_good head events n k lt x g = record {
  event = g.event;
  there = got events k n lt ∙ g.there;
  same = g.same;
  fits = tt;
  good = same_judged head (take n events) events k x (take-take k n events (omega (arith, lt))) ∙ g.good;
}

front_run : (head : Head) (events : List Event) (n : ℕ) → n ≤ length events → AreWellFormed head events → ((k : ℕ) → k < n → CanBeWitnessed head events k) → HasRunButMoments head (take n events)
front_run head events n low well each =
    let front : List Event = take n events in
    let count : n ≡ length front = omega (arith, low, length-take n events) in
    let all = gathered (λ y. Unit {0}) head front n (λ k lt. let g = can_good head events k (each k lt) in (g.0, front_good head events n k lt g.0 g.1)) in
    let same : AreSameButMoments all.0 front = all.1.same ∙ ap (map without_moments) (take_all n front (omega (arith, count))) in
    accepted_alike_run head front all.0 (front_well head events n well) same (judged_alike head all.0 front same 0 all.0 ∙ all.1.good)

pub denied_events_have_no_run : UnwitnessedEventsHaveNoRun → DeniedEventsHaveNoRun
denied_events_have_no_run law head events n well few h =
    (law head events n h.within (omega (arith, h.within, few)) h.denied, front_run head events n (omega (arith, h.within)) well h.before)

run_certifies : (head : Head) (events : List Event) → length events ≤ 2 ^ 32 - 1 → HasRunButMoments head events → (found : List Event) × IsCertified head events found
run_certifies head events few run =
    let steps : List Step = run.0 in
    let count : length events ≡ length (visible steps) = sym (length-map events without_moments) ∙ ap length run.2 ∙ length-map (visible steps) without_moments in
    let made = runs_are_accepted head steps run.1 (omega (arith, count, few)) in
    (made.0, record { same = made.1 ∙ sym run.2; fits = made.3; good = made.4 })

-- where each event can be witnessed
pub certified_where_each_can : (head : Head) (events : List Event) → AreWellFormed head events → length events ≤ 2 ^ 32 - 1 → ((k : ℕ) → k < length events → CanBeWitnessed head events k) → CanBeCertified head events
certified_where_each_can head events well few each =
    let front : HasRunButMoments head (take (length events) events) = front_run head events (length events) (omega arith) well each in
    run_certifies head events few (subst (HasRunButMoments head) (take_all (length events) events (omega arith)) front)

pub certified_exactly_where_a_run_exists : CertifiedExactlyWhereARunExists
certified_exactly_where_a_run_exists head events well few = (λ h. certified_events_run head events h.0 well h.1, run_certifies head events few)
