-- A turn keeps each transcript what the record says.
use Rattle.std.proofs.Common.{◌≡◌, ◌≢◌, ℕ, zero, suc, ◌+◌, ◌/◌, ◌%◌, ◌≤◌, ◌==◌, Bool, true, false, not, cond, ◌||◌, List, [], ◌∷◌, ◌++◌, length, take, refl, ap, sym, ◌∙◌, subst, arith, Option, Some, None, inl, inr, nat_lt}
use Rattle.std.specs.Prelude.{slice_get, slice_set}
use Rattle.std.specs.List.{AllByRecursion}
use Rattle.std.proofs.lemmas.Bool.{eq-eqb, eqb-true, ne_eqb, or_parts, false≢true}
use Rattle.std.proofs.lemmas.Grind.{flat_map-append}
use Rattle.std.proofs.lemmas.List.{append-nil, take_all}
use Rattle.pg_event.specs.declared.event.Event.{Event}
use Rattle.pg_event.specs.declared.event.Event.TheVariants as events
use Rattle.pg_event.specs.declared.event.Malformed.TheVariants as rules
use Rattle.pg_event.specs.declared.event.Outcome.TheVariants as outcomes
use Rattle.pg_event.specs.Form.{processor_of, access_kind, is_canonical, flags_of}
use Rattle.pg_event.specs.Heads.{Head}
use Rattle.pg_guest.specs.declared.instruction.Instruction.{Instruction}
use Rattle.pg_guest.specs.declared.instruction.Instruction.TheVariants.{Write, Access, MovCr3, Invlpg, Invpcid, MovCr4Pge}
use Rattle.pg_guest.specs.Tasks.{shape, IsWellFormed}
use Rattle.pg_shadow.specs.declared.entries.Found.{Found}
use Rattle.pg_world.specs.declared.receipt.Receipt.{Receipt}
use Rattle.pg_world.specs.Recording.{Recording, receipt_of}
use Rattle.pg_event.proofs.Flags.{flags_are_told}
use Rattle.pg_guest.specs.declared.advance.Advance.TheVariants.{Ended}
use Rattle.pg_guest.specs.Turn.{Processor, Turned, done, assisted, goes_on, begun, turned_by, stopped, IsTurn}
use Rattle.pg_guest.specs.Transcripts.{receipts_from, listed, shapes_of, IsTold, AreWellFormed, KeepsTold, TurnsAreTold, FreshAreTold, AreTold, CoreRunsAreTold, EndedHaveToldAll}
use Rattle.pg_guest.proofs.Cases.{goes_on_any}
use Rattle.pg_guest.proofs.CoreRuns.{each_processor}

-- ---- one event more

split : (b : Bool) (r : Receipt) (xs ys : List Receipt) → cond b (r ∷ (xs ++ ys)) (xs ++ ys) ≡ cond b (r ∷ xs) xs ++ ys
split true r xs ys = refl
split false r xs ys = refl

-- the receipt of an event, where it is one of p
abbrev receipt_if : Bool → ℕ → Event → List Receipt
receipt_if b i e = let r : Receipt = record { moment = i; event = e } in cond b (r ∷ []) []

pushed_from : (p i : ℕ) (es : List Event) (e : Event) → receipts_from p i (es ++ e ∷ []) ≡ receipts_from p i es ++ receipt_if (processor_of e == p) (i + length es) e
pushed_from p i [] e = ap (λ n. receipt_if (processor_of e == p) n e) (let z : i ≡ i + 0 = omega arith in z)
pushed_from p i (x ∷ es) e =
    let rest = pushed_from p (i + 1) es e in
    let r : Receipt = record { moment = i; event = x } in
    let b : Bool = processor_of x == p in
    let later : i + 1 + length es ≡ i + suc (length es) = omega arith in
    ap (λ rs. cond b (r ∷ rs) rs) rest ∙ split b r (receipts_from p (i + 1) es) _
    ∙ ap (λ n. cond b (r ∷ receipts_from p (i + 1) es) (receipts_from p (i + 1) es) ++ receipt_if (processor_of e == p) n e) later

pushed : (p : ℕ) (es : List Event) (e : Event) → receipts_from p 0 (es ++ e ∷ []) ≡ receipts_from p 0 es ++ receipt_if (processor_of e == p) (length es) e
pushed p es e = pushed_from p 0 es e ∙ ap (λ n. receipts_from p 0 es ++ receipt_if (processor_of e == p) n e) (let z : 0 + length es ≡ length es = omega arith in z)

pushed_own : (p : ℕ) (es : List Event) (e : Event) → processor_of e ≡ p → receipts_from p 0 (es ++ e ∷ []) ≡ receipts_from p 0 es ++ receipt_of es e ∷ []
pushed_own p es e own = pushed p es e ∙ ap (λ b. receipts_from p 0 es ++ receipt_if b (length es) e) (eq-eqb (processor_of e) p own)

pushed_other : (p : ℕ) (es : List Event) (e : Event) → processor_of e ≢ p → receipts_from p 0 (es ++ e ∷ []) ≡ receipts_from p 0 es
pushed_other p es e other = pushed p es e ∙ ap (λ b. receipts_from p 0 es ++ receipt_if b (length es) e) (ne_eqb (processor_of e) p other) ∙ append-nil (receipts_from p 0 es)

shapes_pushed : (rs : List Receipt) (r : Receipt) → shapes_of (rs ++ r ∷ []) ≡ shapes_of rs ++ listed (shape r.event)
shapes_pushed rs r = flat_map-append (λ (receipt : Receipt). listed (shape receipt.event)) rs (r ∷ []) ∙ ap (λ zs. shapes_of rs ++ zs) (append-nil (listed (shape r.event)))

take_one_more : (xs : List Instruction) (n : ℕ) (x : Instruction) → slice_get xs n ≡ Some x → take (n + 1) xs ≡ take n xs ++ x ∷ []
take_one_more [] n x h = absurd (cc)
take_one_more (y ∷ ys) zero x h = let e : y ≡ x = cc in ap (λ z. z ∷ []) e
take_one_more (y ∷ ys) (suc n) x h =
    let more : suc n + 1 ≡ suc (n + 1) = omega arith in
    ap (λ k. take k (y ∷ ys)) more ∙ ap (λ zs. y ∷ zs) (take_one_more ys n x h)

-- ---- what turns tell

abbrev Tells : ℕ → Recording → Processor → Turned → Type 0
Tells p r x t = KeepsTold p r t.world x t.processor

others_told : (p : ℕ) (es : List Event) (e : Event) → processor_of e ≡ p → (q : ℕ) → q ≢ p → (z : Processor) → IsTold es q z → IsTold (es ++ e ∷ []) q z
others_told p es e own q away z h = record {
  receipts = h.receipts ∙ sym (pushed_other q es e (λ same. away (sym same ∙ own)));
  shapes = h.shapes;
}

done_tells : (p : ℕ) (r : Recording) (x : Processor) (e : Event) (i : Instruction) → processor_of e ≡ p → slice_get x.instructions x.place ≡ Some i → shape e ≡ Some i →
    Tells p r x (done r x (receipt_of r.events e))
done_tells p r x e i own at same = record {
  head = refl;
  instructions = refl;
  own = λ h. record {
    receipts = ap (λ rs. rs ++ receipt_of r.events e ∷ []) h.receipts ∙ sym (pushed_own p r.events e own);
    shapes = shapes_pushed x.transcript (receipt_of r.events e) ∙ ap (λ zs. zs ++ listed (shape e)) h.shapes
        ∙ ap (λ o. take x.place x.instructions ++ listed o) same ∙ sym (take_one_more x.instructions x.place i at);
  };
  others = others_told p r.events e own;
}

-- an assist carries no instruction out
assisted_tells : (p : ℕ) (r : Recording) (x : Processor) (way : Found) (e : Event) → processor_of e ≡ p → shape e ≡ None → Tells p r x (assisted r x way (receipt_of r.events e))
assisted_tells p r x way e own none = record {
  head = refl;
  instructions = refl;
  own = λ h. record {
    receipts = ap (λ rs. rs ++ receipt_of r.events e ∷ []) h.receipts ∙ sym (pushed_own p r.events e own);
    shapes = shapes_pushed x.transcript (receipt_of r.events e) ∙ ap (λ o. shapes_of x.transcript ++ listed o) none ∙ append-nil (shapes_of x.transcript) ∙ h.shapes;
  };
  others = others_told p r.events e own;
}

-- nothing is recorded, and the instruction stays the next
quiet_tells : (p : ℕ) (r : Recording) (x y : Processor) → y.instructions ≡ x.instructions → y.place ≡ x.place → y.transcript ≡ x.transcript → KeepsTold p r r x y
quiet_tells p r x y instructions place transcript = record {
  head = refl;
  instructions = instructions;
  own = λ h. record {
    receipts = transcript ∙ h.receipts;
    shapes = ap shapes_of transcript ∙ h.shapes ∙ sym (λ i. take (place i) (instructions i));
  };
  others = λ q away z h. h;
}

-- ---- the flags of an access

pub well_at : (P : Instruction → Type 0) (xs : List Instruction) (n : ℕ) (i : Instruction) → AllByRecursion P xs → slice_get xs n ≡ Some i → P i
well_at P [] n i all at = absurd (cc)
well_at P (x ∷ xs) zero i all at = let same : x ≡ i = cc in subst P same all.0
well_at P (x ∷ xs) (suc n) i all at = well_at P xs n i all.1 at

last_rule : (a b c : Bool) → cond a (Some rules.Processor) (cond b (Some rules.LinearAddress) (cond c (Some rules.Flags) None)) ≡ None → c ≡ false
last_rule true b c h = absurd (cc)
last_rule false true c h = absurd (cc)
last_rule false false true h = absurd (cc)
last_rule false false false h = refl

-- the flags of a well-formed access are those that the world records for it
pub flags_stay : (head : Head) (p flags la : ℕ) → IsWellFormed head p (Access flags la) → flags_of (access_kind flags) ≡ flags
flags_stay head p flags la well =
    let e : Event = events.Access p flags la (outcomes.Fault 0) [] in
    let out_of_form : Bool = flags % 4 == 3 || not (flags / 16 == 0) in
    let none : out_of_form ≡ false = last_rule (not (nat_lt p (length head.processors))) (not (is_canonical la)) out_of_form (well e refl refl) in
    let parts = or_parts (flags % 4 == 3) (not (flags / 16 == 0)) none in
    let few : flags / 16 ≡ 0 = eqb-true _ _ (not_false (flags / 16 == 0) parts.1) in
    flags_are_told.flags flags (omega (arith, few)) (λ three. false≢true (sym parts.0 ∙ eq-eqb _ _ three))
  where
    not_false : (b : Bool) → not b ≡ false → b ≡ true
    not_false true h = refl
    not_false false h = absurd (cc)

-- ---- a turn

access_tells : (p : ℕ) (r : Recording) (x : Processor) (flags la : ℕ) (way : Found) → AreWellFormed r.head p x → slice_get x.instructions x.place ≡ Some (Access flags la) →
    Tells p r x (goes_on p r x flags la way)
access_tells p r x flags la way well at =
    let same : flags_of (access_kind flags) ≡ flags = flags_stay r.head p flags la (well_at (IsWellFormed r.head p) x.instructions x.place (Access flags la) well at) in
    goes_on_any (Tells p r x) p r x flags la (record {
      hit = λ outcome moments. done_tells p r x (events.Access p flags la outcome moments) (Access flags la) refl at refl;
      fault = λ code moments. done_tells p r x (events.Access p (flags_of (access_kind flags)) la (outcomes.Fault code) moments) (Access flags la) refl at
          (ap (λ f. Some (Access f la)) same);
      assist = λ way bits word moments. assisted_tells p r x way (events.Assist p bits la word moments) refl refl;
      read = λ level way caches. quiet_tells p r x _ refl refl refl;
    }) way

turned_tells : (p : ℕ) (r : Recording) (x : Processor) → AreWellFormed r.head p x → (o : Option Instruction) → slice_get x.instructions x.place ≡ o → Tells p r x (turned_by p r x o)
turned_tells p r x well None at = quiet_tells p r x x refl refl refl
turned_tells p r x well (Some (Write addr value)) at = done_tells p r x (events.Write p addr value) _ refl at refl
turned_tells p r x well (Some (Access flags la)) at = access_tells p r x flags la (begun r.head x.caches la (access_kind flags) x.way) well at
turned_tells p r x well (Some (MovCr3 operand)) at = done_tells p r x (events.MovCr3 p operand) _ refl at refl
turned_tells p r x well (Some (Invlpg la)) at = done_tells p r x (events.Invlpg p la) _ refl at refl
turned_tells p r x well (Some (Invpcid kind pcid la)) at = done_tells p r x (events.Invpcid p kind pcid la) _ refl at refl
turned_tells p r x well (Some (MovCr4Pge on)) at = done_tells p r x (events.MovCr4Pge p on) _ refl at refl

pub turns_are_told : TurnsAreTold
turns_are_told p r x t well (inl halt) = subst (Tells p r x) (sym halt.is) (quiet_tells p r x (stopped halt.why r x).processor refl refl refl)
turns_are_told p r x t well (inr went) = subst (Tells p r x) (sym went.is) (turned_tells p r x well (slice_get x.instructions x.place) refl)

pub fresh_are_told : FreshAreTold
fresh_are_told head p instructions = record { receipts = refl; shapes = none instructions }
  where
    none : (xs : List Instruction) → [] ≡ take 0 xs
    none [] = refl
    none (x ∷ xs) = refl

-- ---- core runs

turn_is_told : (r : Recording) (xs : List Processor) (p : ℕ) (x : Processor) (t : Turned) → AreTold r xs → slice_get xs p ≡ Some x → IsTurn p r x t → AreTold t.world (slice_set xs p t.processor)
turn_is_told r xs p x t told here turn =
    let keeps = turns_are_told p r x t (told.well p x here) turn in
    let head_is : (q : ℕ) (z : Processor) → AreWellFormed r.head q z → AreWellFormed t.world.head q z = λ q z well. subst (λ h. AreWellFormed h q z) (sym keeps.head) well in
    let own_well : AreWellFormed t.world.head p t.processor =
    head_is p t.processor (subst (λ is. AllByRecursion (IsWellFormed r.head p) is) (sym keeps.instructions) (told.well p x here)) in record {
      well = each_processor (λ q z. AreWellFormed t.world.head q z) xs p x t.processor here own_well (λ q z away h. head_is q z (told.well q z h));
      told = each_processor (λ q z. IsTold t.world.events q z) xs p x t.processor here (keeps.own (told.told p x here)) (λ q z away h. keeps.others q away z (told.told q z h));
    }

pub core_runs_are_told : CoreRunsAreTold
core_runs_are_told r xs [] answers end ys told run = subst (λ e. AreTold e ys) (sym run.1) (subst (λ ys. AreTold r ys) (sym run.2) told)
core_runs_are_told r xs (p ∷ ps) answers end ys told run =
    core_runs_are_told run.1.world (slice_set xs p run.1.processor) ps run.2 end ys (turn_is_told r xs p run.0 run.1 told run.3 run.4) run.6

-- ---- the end

past : (xs : List Instruction) (n : ℕ) → slice_get xs n ≡ None → length xs ≤ n
past [] n h = omega arith
past (x ∷ xs) zero h = absurd (cc)
past (x ∷ xs) (suc n) h = let rest : length xs ≤ n = past xs n h in omega arith

ends_at_the_end : (p : ℕ) (r : Recording) (x : Processor) (o : Option Instruction) → (turned_by p r x o).answer ≡ Ended → o ≡ None
ends_at_the_end p r x None h = refl
ends_at_the_end p r x (Some (Write addr value)) h = absurd (cc)
ends_at_the_end p r x (Some (Access flags la)) h =
    absurd (goes_on_any (λ t. t.answer ≡ Ended → ⊥) p r x flags la (record {
      hit = λ outcome moments h. cc;
      fault = λ code moments h. cc;
      assist = λ way bits word moments h. cc;
      read = λ level way caches h. cc;
    }) (begun r.head x.caches la (access_kind flags) x.way) h)
ends_at_the_end p r x (Some (MovCr3 operand)) h = absurd (cc)
ends_at_the_end p r x (Some (Invlpg la)) h = absurd (cc)
ends_at_the_end p r x (Some (Invpcid kind pcid la)) h = absurd (cc)
ends_at_the_end p r x (Some (MovCr4Pge on)) h = absurd (cc)

pub ended_have_told_all : EndedHaveToldAll
ended_have_told_all p r x t told (inl halt) ended = let h = subst (λ (t : Turned). t.answer ≡ Ended) halt.is ended in absurd (cc)
ended_have_told_all p r x t told (inr went) ended =
    let none : slice_get x.instructions x.place ≡ None = ends_at_the_end p r x (slice_get x.instructions x.place) (subst (λ (t : Turned). t.answer ≡ Ended) went.is ended) in
    let left : t.processor ≡ x = ap (λ (t : Turned). t.processor) (went.is ∙ ap (turned_by p r x) none) in
    subst (λ (y : Processor). shapes_of y.transcript ≡ y.instructions) (sym left) (told.shapes ∙ take_all x.place x.instructions (past x.instructions x.place none))
