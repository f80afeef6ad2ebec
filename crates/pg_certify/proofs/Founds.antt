-- What is found for an event witnesses it.
use Rattle.std.proofs.Common.{◌≡◌, ℕ, ◌+◌, ◌<◌, ◌≤◌, true, false, List, [], ◌∷◌, length, refl, ap, sym, ◌∙◌, subst, arith, inl, inr, Option, Some, None, take_all, map}
use Rattle.std.specs.Prelude.{slice_get, IfSome, IfNone}
use Rattle.std.proofs.lemmas.Bool.{cases_lt}
use Rattle.pg_event.specs.declared.event.Event.{Event}
use Rattle.pg_event.specs.declared.event.Event.TheVariants.{Write, Access, Assist, MovCr3, Invlpg, Invpcid, MovCr4Pge}
use Rattle.pg_event.specs.Heads.{Head}
use Rattle.pg_event.specs.Form.{broken_rule, processor_of}
use Rattle.pg_event.specs.Spelling.{Recorded, AreMoments}
use Rattle.pg_event.specs.Witness.{failing_event}
use Rattle.pg_chain.specs.declared.past.Past.{Past}
use Rattle.pg_chain.specs.Standing.{IsPast, processor_count}
use Rattle.pg_chain.proofs.Notes.{processor_count-past}
use Rattle.pg_check.proofs.Known.{processor-known}
use Rattle.pg_run_of.specs.Converse.{without_moments, HasMoments, AreSameButMoments}
use Rattle.pg_run_of.proofs.Moments.{judged_alike}
use Rattle.pg_search.specs.Law.{names_moments, with_moments, AreWitness, CanBeWitnessed}
use Rattle.pg_certify.specs.Certified.{IsFoundFor, IsUnwitnessed, IsFound, IsCertified, IsDenied}
use Rattle.pg_certify.proofs.Gathered.{Good, UpTo}

pub some_same : (x y : Event) → Some x ≡ Some y → x ≡ y
some_same x y h = cc

same_without : (ws : List ℕ) (e : Event) → without_moments (with_moments ws e) ≡ without_moments e
same_without ws (Write p addr value) = refl
same_without ws (Access p flags la outcome moments) = refl
same_without ws (Assist p flags la word moments) = refl
same_without ws (MovCr3 p operand) = refl
same_without ws (Invlpg p la) = refl
same_without ws (Invpcid p kind pcid la) = refl
same_without ws (MovCr4Pge p on) = refl

fits_with : (ws : List ℕ) (e : Event) → AreMoments ws → HasMoments (with_moments ws e)
fits_with ws (Write p addr value) h = tt
fits_with ws (Access p flags la outcome moments) h = h
fits_with ws (Assist p flags la word moments) h = h
fits_with ws (MovCr3 p operand) h = tt
fits_with ws (Invlpg p la) h = tt
fits_with ws (Invpcid p kind pcid la) h = tt
fits_with ws (MovCr4Pge p on) h = tt

processor_with : (ws : List ℕ) (e : Event) → processor_of (with_moments ws e) ≡ processor_of e
processor_with ws (Write p addr value) = refl
processor_with ws (Access p flags la outcome moments) = refl
processor_with ws (Assist p flags la word moments) = refl
processor_with ws (MovCr3 p operand) = refl
processor_with ws (Invlpg p la) = refl
processor_with ws (Invpcid p kind pcid la) = refl
processor_with ws (MovCr4Pge p on) = refl

-- the event with moments that witness it
pub found_with : (head : Head) (events : List Event) (i : ℕ) (e : Event) (ws : List ℕ) → AreMoments ws → failing_event head events i (with_moments ws e) ≡ None → IsFoundFor head events i e (with_moments ws e)
found_with head events i e ws fits good = record { same = same_without ws e; fits = fits_with ws e fits; good = good }

-- by a search
pub found_by : (head : Head) (events : List Event) (i : ℕ) (e : Event) (ws : List ℕ) → AreMoments ws → AreWitness head events i e ws → IsFoundFor head events i e (with_moments ws e)
found_by head events i e ws fits by = found_with head events i e ws fits by.good

-- by moments that were found
pub found_for : (head : Head) (events : List Event) (i : ℕ) (e : Event) (r : Option (List ℕ)) (ws : List ℕ) (x : Event) → r ≡ Some ws → IfSome r (AreWitness head events i e) → AreMoments ws → x ≡ with_moments ws e → IsFoundFor head events i e x
found_for head events i e None ws x is by fits same = absurd (cc)
found_for head events i e (Some us) ws x is by fits same =
    let one : us ≡ ws = cc in
    subst (IsFoundFor head events i e) (sym same) (found_by head events i e ws fits (subst (AreWitness head events i e) one by))

-- an event that names no moments
pub found_itself : (head : Head) (events : List Event) (i : ℕ) (e : Event) → names_moments e ≡ false → IsFoundFor head events i e e
found_itself head events i (Write p addr value) h = record { same = refl; fits = tt; good = refl }
found_itself head events i (Access p flags la outcome moments) h = absurd (cc)
found_itself head events i (Assist p flags la word moments) h = absurd (cc)
found_itself head events i (MovCr3 p operand) h = record { same = refl; fits = tt; good = refl }
found_itself head events i (Invlpg p la) h = record { same = refl; fits = tt; good = refl }
found_itself head events i (Invpcid p kind pcid la) h = record { same = refl; fits = tt; good = refl }
found_itself head events i (MovCr4Pge p on) h = record { same = refl; fits = tt; good = refl }

-- its processor is known to its past
pub processor_past : (past : Past) (head : Head) (events : List Event) (e : Event) (ws : List ℕ) → IsPast past head events → broken_rule head e ≡ None →
    processor_of (with_moments ws e) < processor_count past
processor_past past head events e ws stands well =
    let n = processor_count-past past head events stands in
    let known = processor-known head e well in
    let same = processor_with ws e in
    omega (arith, n, known, same)

-- the moments that an event names
abbrev pub named : Event → List ℕ
named (Write p addr value) = 0 ∷ []
named (Access p flags la outcome moments) = moments
named (Assist p flags la word moments) = moments
named (MovCr3 p operand) = 0 ∷ []
named (Invlpg p la) = 0 ∷ []
named (Invpcid p kind pcid la) = 0 ∷ []
named (MovCr4Pge p on) = 0 ∷ []

has_some : (e : Event) → HasMoments e → (1 ≤ length (named e)) × (length (named e) ≤ 4)
has_some (Write p addr value) h = (omega arith, omega arith)
has_some (Access p flags la outcome moments) h = (h.some, h.few)
has_some (Assist p flags la word moments) h = (h.some, h.few)
has_some (MovCr3 p operand) h = (omega arith, omega arith)
has_some (Invlpg p la) h = (omega arith, omega arith)
has_some (Invpcid p kind pcid la) h = (omega arith, omega arith)
has_some (MovCr4Pge p on) h = (omega arith, omega arith)

itself : (e : Event) → with_moments (named e) (without_moments e) ≡ e
itself (Write p addr value) = refl
itself (Access p flags la outcome moments) = refl
itself (Assist p flags la word moments) = refl
itself (MovCr3 p operand) = refl
itself (Invlpg p la) = refl
itself (Invpcid p kind pcid la) = refl
itself (MovCr4Pge p on) = refl

replaced : (ws : List ℕ) (e : Event) → with_moments ws (without_moments e) ≡ with_moments ws e
replaced ws (Write p addr value) = refl
replaced ws (Access p flags la outcome moments) = refl
replaced ws (Assist p flags la word moments) = refl
replaced ws (MovCr3 p operand) = refl
replaced ws (Invlpg p la) = refl
replaced ws (Invpcid p kind pcid la) = refl
replaced ws (MovCr4Pge p on) = refl

-- the moments of what is found for an event witness it
pub found_witness : (head : Head) (events : List Event) (i : ℕ) (e x : Event) → IsFoundFor head events i e x → AreWitness head events i e (named x)
found_witness head events i e x h =
    let fits = has_some x h.fits in
    let is : x ≡ with_moments (named x) e = sym (itself x) ∙ ap (with_moments (named x)) h.same ∙ replaced (named x) e in
    record { some = fits.0; few = fits.1; good = subst (λ y. failing_event head events i y ≡ None) is h.good }

-- what is found for an event shows that some moments witness it
pub found_can : (head : Head) (events : List Event) (i : ℕ) (x : Event) → IsFound head events i x → CanBeWitnessed head events i
found_can head events i x h =
    (named x, (h.event, h.there, found_witness head events i h.event x (record { same = h.same; fits = h.fits; good = h.good })))

-- what is found for an event is one of those that are gathered
pub found_good : (head : Head) (events : List Event) (i : ℕ) (x : Event) → IsFound head events i x → Good HasMoments head events i x
found_good head events i x h = record { event = h.event; there = h.there; same = h.same; fits = h.fits; good = h.good }

-- moments that witness an event make it one of those that are gathered
pub can_good : (head : Head) (events : List Event) (i : ℕ) → CanBeWitnessed head events i → (x : Event) × Good (λ y. Unit {0}) head events i x
can_good head events i can =
    let e : Event = can.1.0 in
    (with_moments can.0 e, record { event = e; there = can.1.1; same = same_without can.0 e; fits = tt; good = can.1.2.good })

-- where all are found they are certified
pub all_found : (head : Head) (events found : List Event) (n : ℕ) → n ≡ length events → UpTo HasMoments head events n found → IsCertified head events found
all_found head events found n all h =
    let same : AreSameButMoments found events = h.same ∙ ap (map without_moments) (take_all n events (omega (arith, all))) in
    record { same = same; fits = h.fits; good = judged_alike head found events same 0 found ∙ h.good }

-- an event that no moments witness
pub cannot : (head : Head) (events : List Event) (i : ℕ) (e : Event) → slice_get events i ≡ Some e → IsUnwitnessed head events i e → CanBeWitnessed head events i → ⊥
cannot head events i e at none can =
    let same : can.1.0 ≡ e = some_same can.1.0 e (sym can.1.1 ∙ at) in
    none can.0 (subst (λ x. AreWitness head events i x can.0) same can.1.2)

-- an event for which nothing is found is denied, where each before it can be witnessed
pub denied_at : (h s : Recorded) (i : ℕ) (e : Event) (r : Option Event) → s ≡ h → i < length h.events → slice_get h.events i ≡ Some e → r ≡ None → IfNone r (names_moments e ≡ true) →
    IfNone r (IsUnwitnessed s.head s.events i e) → ((k : ℕ) → k < i → CanBeWitnessed h.head h.events k) → IsDenied h.head h.events i
denied_at h s i e (Some x) same lt at none names denied before = absurd (cc)
denied_at h s i e None same lt at none names denied before = record {
  within = lt;
  names = (e, at, names);
  denied = cannot h.head h.events i e at (subst (λ (q : Recorded). IsUnwitnessed q.head q.events i e) same denied);
  before = before;
}

-- what is found for the next event, of a run that is told
pub found_at : (h s : Recorded) (i : ℕ) (e : Event) (r : Option Event) (x : Event) → s ≡ h → slice_get h.events i ≡ Some e → r ≡ Some x → IfSome r (IsFoundFor s.head s.events i e) → IsFound h.head h.events i x
found_at h s i e None x same at is found = absurd (cc)
found_at h s i e (Some y) x same at is found =
    let one : y ≡ x = some_same y x is in
    let f : IsFoundFor h.head h.events i e x = subst (λ (q : Recorded). IsFoundFor q.head q.events i e x) same (subst (IsFoundFor s.head s.events i e) one found) in
    record { event = e; there = at; same = f.same; fits = f.fits; good = f.good }

-- one number more
pub each_more : (P : ℕ → Type 0) (i : ℕ) → ((k : ℕ) → k < i → P k) → P i → (k : ℕ) → k < i + 1 → P k
each_more P i before here k lt =
    elim (cases_lt k i) as (λ _. P k) [ inl b ↦ before k b | inr e ↦ let same : i ≡ k = omega (arith, e, lt) in subst P same here ]
