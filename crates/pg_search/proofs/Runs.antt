-- A run whose events begin as these do witnesses each of them, by moments of its own.
use Rattle.std.proofs.Common.{◌≡◌, ℕ, zero, suc, ◌+◌, ◌-◌, ◌^◌, ◌<◌, ◌≤◌, List, [], ◌∷◌, length, refl, ap, sym, ◌∙◌, subst, arith, Option, Some, None, take, map}
use Rattle.std.specs.Prelude.{slice_get}
use Rattle.std.specs.List.{AllByRecursion}
use Rattle.std.specs.Option.{option_map}
use Rattle.std.proofs.lemmas.List.{take-take, length-take}
use Rattle.std.proofs.lemmas.Option.{slice_get-map}
use Rattle.pg_event.specs.declared.event.Event.{Event}
use Rattle.pg_event.specs.declared.event.Event.TheVariants.{Write, Access, Assist, MovCr3, Invlpg, Invpcid, MovCr4Pge}
use Rattle.pg_event.specs.declared.event.Reason.{Reason}
use Rattle.pg_event.specs.Heads.{Head}
use Rattle.pg_event.specs.Witness.{failing_event, first_some, first_bad_from}
use Rattle.pg_event.proofs.Alike.{same_judged}
use Rattle.pg_machine.specs.declared.step.Step.{Step}
use Rattle.pg_machine.specs.declared.step.Step.TheVariants.{Fill4, Fill3, Fill2, FillLeaf, Drop, Do}
use Rattle.pg_machine.specs.Machine.{State, start, after, RunsFrom, visible}
use Rattle.pg_run_of.specs.Converse.{without_moments, HasMoments}
use Rattle.pg_run_of.proofs.Converse.{runs_are_accepted}
use Rattle.pg_run_of.proofs.Moments.{event_same}
use Rattle.pg_search.specs.Law.{with_moments, AreWitness, UnwitnessedEventsHaveNoRun}

-- the steps up to so many events
abbrev up_to : ℕ → List Step → List Step
up_to n [] = []
up_to zero (Do e ∷ steps) = []
up_to (suc n) (Do e ∷ steps) = Do e ∷ up_to n steps
up_to n (Fill4 p la ∷ steps) = Fill4 p la ∷ up_to n steps
up_to n (Fill3 p la from ∷ steps) = Fill3 p la from ∷ up_to n steps
up_to n (Fill2 p la from ∷ steps) = Fill2 p la from ∷ up_to n steps
up_to n (FillLeaf p la level from ∷ steps) = FillLeaf p la level from ∷ up_to n steps
up_to n (Drop p member ∷ steps) = Drop p member ∷ up_to n steps

runs_up_to : (head : Head) (s : State) (n : ℕ) (steps : List Step) → RunsFrom head s steps → RunsFrom head s (up_to n steps)
runs_up_to head s n [] h = tt
runs_up_to head s zero (Do e ∷ steps) h = tt
runs_up_to head s (suc n) (Do e ∷ steps) h = (h.0, runs_up_to head (after head s (Do e)) n steps h.1)
runs_up_to head s n (Fill4 p la ∷ steps) h = (h.0, runs_up_to head (after head s (Fill4 p la)) n steps h.1)
runs_up_to head s n (Fill3 p la from ∷ steps) h = (h.0, runs_up_to head (after head s (Fill3 p la from)) n steps h.1)
runs_up_to head s n (Fill2 p la from ∷ steps) h = (h.0, runs_up_to head (after head s (Fill2 p la from)) n steps h.1)
runs_up_to head s n (FillLeaf p la level from ∷ steps) h = (h.0, runs_up_to head (after head s (FillLeaf p la level from)) n steps h.1)
runs_up_to head s n (Drop p member ∷ steps) h = (h.0, runs_up_to head (after head s (Drop p member)) n steps h.1)

take_none : (n : ℕ) → take n (let es : List Event = [] in es) ≡ []
take_none zero = refl
take_none (suc n) = refl

visible_up_to : (n : ℕ) (steps : List Step) → visible (up_to n steps) ≡ take n (visible steps)
visible_up_to n [] = sym (take_none n)
visible_up_to zero (Do e ∷ steps) = refl
visible_up_to (suc n) (Do e ∷ steps) = ap (λ es. e ∷ es) (visible_up_to n steps)
visible_up_to n (Fill4 p la ∷ steps) = visible_up_to n steps
visible_up_to n (Fill3 p la from ∷ steps) = visible_up_to n steps
visible_up_to n (Fill2 p la from ∷ steps) = visible_up_to n steps
visible_up_to n (FillLeaf p la level from ∷ steps) = visible_up_to n steps
visible_up_to n (Drop p member ∷ steps) = visible_up_to n steps

got : (xs : List Event) (j n : ℕ) → j < n → slice_get (take n xs) j ≡ slice_get xs j
got [] j zero lt = refl
got [] j (suc n) lt = refl
got (x ∷ xs) j zero lt = absurd (omega arith)
got (x ∷ xs) zero (suc n) lt = refl
got (x ∷ xs) (suc j) (suc n) lt = got xs j n (omega arith)

all_at : (P : Event → Type 0) (xs : List Event) (i : ℕ) (x : Event) → AllByRecursion P xs → slice_get xs i ≡ Some x → P x
all_at P [] i x h e = absurd (cc)
all_at P (y ∷ ys) zero x h e = let same : y ≡ x = cc in subst P same h.0
all_at P (y ∷ ys) (suc i) x h e = all_at P ys i x h.1 e

-- each event of a list with no bad one
no_bad : (i : ℕ) (a : Option Reason) (b : Option (ℕ × Reason)) → first_some i a b ≡ None → (a ≡ None) × (b ≡ None)
no_bad i None b h = (refl, h)
no_bad i (Some r) b h = absurd (cc)

none_bad : (head : Head) (all : List Event) (i : ℕ) (es : List Event) (j : ℕ) (e : Event) → first_bad_from head all i es ≡ None → slice_get es j ≡ Some e → failing_event head all (i + j) e ≡ None
none_bad head all i [] j e h at = absurd (cc)
none_bad head all i (x ∷ es) zero e h at =
    let same : x ≡ e = cc in
    let n : i ≡ i + 0 = omega arith in
    subst (λ k. failing_event head all k e ≡ None) n (subst (λ y. failing_event head all i y ≡ None) same (no_bad i _ _ h).0)
none_bad head all i (x ∷ es) (suc j) e h at =
    let n : i + 1 + j ≡ i + suc j = omega arith in
    subst (λ k. failing_event head all k e ≡ None) n (none_bad head all (i + 1) es j e (no_bad i _ _ h).1 at)

-- an event is another with moments of its own, where the two are the same but for moments

abbrev named : Event → List ℕ
named (Write p addr value) = 0 ∷ []
named (Access p flags la outcome moments) = moments
named (Assist p flags la word moments) = moments
named (MovCr3 p operand) = 0 ∷ []
named (Invlpg p la) = 0 ∷ []
named (Invpcid p kind pcid la) = 0 ∷ []
named (MovCr4Pge p on) = 0 ∷ []

has_some : (e : Event) → HasMoments e → (1 ≤ length (named e)) × (length (named e) ≤ 4)
has_some (Write p addr value) h = (omega arith, omega arith)
has_some (Access p flags la outcome moments) h = (h.some, h.few)
has_some (Assist p flags la word moments) h = (h.some, h.few)
has_some (MovCr3 p operand) h = (omega arith, omega arith)
has_some (Invlpg p la) h = (omega arith, omega arith)
has_some (Invpcid p kind pcid la) h = (omega arith, omega arith)
has_some (MovCr4Pge p on) h = (omega arith, omega arith)

itself : (e : Event) → with_moments (named e) (without_moments e) ≡ e
itself (Write p addr value) = refl
itself (Access p flags la outcome moments) = refl
itself (Assist p flags la word moments) = refl
itself (MovCr3 p operand) = refl
itself (Invlpg p la) = refl
itself (Invpcid p kind pcid la) = refl
itself (MovCr4Pge p on) = refl

replaced : (ws : List ℕ) (e : Event) → with_moments ws (without_moments e) ≡ with_moments ws e
replaced ws (Write p addr value) = refl
replaced ws (Access p flags la outcome moments) = refl
replaced ws (Assist p flags la word moments) = refl
replaced ws (MovCr3 p operand) = refl
replaced ws (Invlpg p la) = refl
replaced ws (Invpcid p kind pcid la) = refl
replaced ws (MovCr4Pge p on) = refl

option_given : {X Y : Type 0} (f : X → Y) (o : Option X) (y : Y) → option_map f o ≡ Some y → (x : X) × (o ≡ Some x) × (f x ≡ y)
option_given f None y h = absurd (cc)
option_given f (Some x) y h = (x, refl, cc)

there : (xs : List Event) (i : ℕ) → i < length xs → (e : Event) × (slice_get xs i ≡ Some e)
there [] i lt = absurd (omega arith)
there (x ∷ xs) zero lt = (x, refl)
there (x ∷ xs) (suc i) lt = there xs i (omega arith)

pub unwitnessed_events_have_no_run : UnwitnessedEventsHaveNoRun
unwitnessed_events_have_no_run head events i inside low none begins =
    let steps : List Step = begins.0 in
    let mine : List Step = up_to (i + 1) steps in
    let front : List Event = take (i + 1) events in
    let seen : visible mine ≡ take (i + 1) (visible steps) = visible_up_to (i + 1) steps in
    let short : length (visible mine) ≤ 2 ^ 32 - 1 =
    let count : length (visible mine) ≡ length (take (i + 1) (visible steps)) = ap length seen in
    omega (arith, count, length-take (i + 1) (visible steps), low) in
    let made = runs_are_accepted head mine (runs_up_to head (start head) (i + 1) steps begins.1) short in
    let es : List Event = made.0 in
    let same : map without_moments es ≡ map without_moments front = made.1 ∙ ap (map without_moments) seen ∙ sym begins.2 in
    let at = there events i inside in
    let e : Event = at.0 in
    let on_front : slice_get front i ≡ Some e = got events i (i + 1) (omega arith) ∙ at.1 in
    let mapped : option_map without_moments (slice_get es i) ≡ Some (without_moments e) =
    sym (slice_get-map without_moments es i) ∙ ap (λ (xs : List Event). slice_get xs i) same ∙ slice_get-map without_moments front i ∙ ap (option_map without_moments) on_front in
    let found = option_given without_moments (slice_get es i) (without_moments e) mapped in
    let x : Event = found.0 in
    let ws : List ℕ = named x in
    let is : x ≡ with_moments ws e = sym (itself x) ∙ ap (with_moments ws) found.2 ∙ replaced ws e in
    let fits = has_some x (all_at HasMoments es i x made.3 found.1) in
    let n : 0 + i ≡ i = omega arith in
    let good : failing_event head es i x ≡ None = subst (λ k. failing_event head es k x ≡ None) n (none_bad head es 0 es i x made.4 found.1) in
    let here : failing_event head front i x ≡ None =
    sym (event_same head front i x) ∙ ap (λ (xs : List Event). failing_event head xs i x) (sym same) ∙ event_same head es i x ∙ good in
    let past : failing_event head events i x ≡ None = same_judged head events front i x (sym (take-take i (i + 1) events (omega arith))) ∙ here in
    let witness : AreWitness head events i e ws = record { some = fits.0; few = fits.1; good = subst (λ y. failing_event head events i y ≡ None) is past } in
    none (ws, (e, at.1, witness))
