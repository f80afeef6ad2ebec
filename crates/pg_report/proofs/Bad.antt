-- Where the first bad event stands, and that it is not witnessed.
use Rattle.std.proofs.Common.{◌≡◌, ℕ, suc, ◌+◌, ◌<◌, List, [], ◌∷◌, length, Option, Some, None, refl, sym, ap, ◌∙◌, arith}
use Rattle.std.specs.Option.{option_map_or}
use Rattle.std.specs.Prelude.{slice_get}
use Rattle.pg_event.specs.declared.event.Event.{Event}
use Rattle.pg_event.specs.declared.event.Reason.{Reason}
use Rattle.pg_event.specs.Heads.{Head}
use Rattle.pg_event.specs.Witness.{failing_event, failing, first_some, first_bad, first_bad_from, Witnessed}
use Rattle.pg_report.specs.declared.report.Verdict.TheVariants.{Yes, No}
use Rattle.pg_report.specs.Text.{verdict_of}

pub record IsBadAt (head : Head) (all : List Event) (first : ℕ) (es : List Event) (i : ℕ) (reason : Reason) : Type 0 where
  pub at : ℕ
  pub within : at < length es
  pub number : i ≡ first + at
  pub event : Event
  pub is : slice_get es at ≡ Some event
  pub bad : failing_event head all i event ≡ Some reason

pub parts : (p q : ℕ × Reason) → Some p ≡ Some q → (p.0 ≡ q.0) × (p.1 ≡ q.1)
parts p q e = (ap (λ o. option_map_or (λ r. r.0) o p.0) e, ap (λ o. option_map_or (λ r. r.1) o p.1) e)

-- an event that is bad, or what is bad after it
bad_next : (head : Head) (all : List Event) (first : ℕ) (x : Event) (es : List Event) (i : ℕ) (reason : Reason) (o : Option Reason) (rest : Option (ℕ × Reason)) →
    failing_event head all first x ≡ o → (rest ≡ Some (i, reason) → IsBadAt head all (first + 1) es i reason) → first_some first o rest ≡ Some (i, reason) → IsBadAt head all first (x ∷ es) i reason
bad_next head all first x es i reason (Some r) rest is later found =
    let same = parts (first, r) (i, reason) found in
    let here : i ≡ first + 0 = omega (arith, same.0) in
    record {
      at = 0;
      within = omega arith;
      number = here;
      event = x;
      is = refl;
      bad = ap (λ k. failing_event head all k x) (sym same.0) ∙ (is ∙ ap (λ (y : Reason). Some y) same.1);
    }
bad_next head all first x es i reason None rest is later found =
    let b = later found in
    let number : i ≡ first + suc b.at = omega (arith, b.number) in
    record {
      at = suc b.at;
      within = omega (arith, b.within);
      number = number;
      event = b.event;
      is = b.is;
      bad = b.bad;
    }

bad_from : (head : Head) (all : List Event) (first : ℕ) (es : List Event) (i : ℕ) (reason : Reason) → first_bad_from head all first es ≡ Some (i, reason) → IsBadAt head all first es i reason
bad_from head all first [] i reason e = absurd cc
bad_from head all first (x ∷ es) i reason e =
    bad_next head all first x es i reason (failing_event head all first x) (first_bad_from head all (first + 1) es) refl (λ h. bad_from head all (first + 1) es i reason h) e

-- the first bad event of a run
pub bad_is_within : (head : Head) (events : List Event) (i : ℕ) (reason : Reason) → first_bad head events ≡ Some (i, reason) → i < length events
bad_is_within head events i reason e =
    let b = bad_from head events 0 events i reason e in
    omega (arith, b.within, b.number)

pub bad_is_unwitnessed : (head : Head) (events : List Event) (i : ℕ) (reason : Reason) → first_bad head events ≡ Some (i, reason) → Witnessed head events i → ⊥
bad_is_unwitnessed head events i reason e good =
    let b = bad_from head events 0 events i reason e in
    let at : i ≡ b.at = omega (arith, b.number) in
    let some : failing head events i ≡ Some reason = rw (ap (slice_get events) at ∙ b.is) b.bad in
    let none : None ≡ Some reason = sym good ∙ some in
    cc

-- a verdict tells the first bad event
pub told_bad : (o : Option (ℕ × Reason)) (i : ℕ) (reason : Reason) → verdict_of o ≡ No i reason → o ≡ Some (i, reason)
told_bad None i reason e = absurd cc
told_bad (Some (j, r)) i reason e = cc

pub told_good : (o : Option (ℕ × Reason)) → verdict_of o ≡ Yes → o ≡ None
told_good None e = refl
told_good (Some (j, r)) e = absurd cc
