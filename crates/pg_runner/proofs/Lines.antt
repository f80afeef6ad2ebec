-- What turns add to the lines that are carried out.
use Rattle.std.proofs.Common.{◌≡◌, ℕ, zero, suc, ◌+◌, ◌==◌, Bool, true, false, cond, List, [], ◌∷◌, ◌++◌, length, take, refl, ap, sym, ◌∙◌, subst, Option, Some, None, inl, inr, eq-eqb}
use Rattle.std.specs.Prelude.{slice_get}
use Rattle.std.proofs.lemmas.Grind.{flat_map-append}
use Rattle.std.proofs.lemmas.List.{append-nil}
use Rattle.pg_event.specs.declared.event.Event.{Event}
use Rattle.pg_event.specs.declared.event.Event.TheVariants as events
use Rattle.pg_event.specs.declared.event.Outcome.TheVariants as outcomes
use Rattle.pg_event.specs.Form.{processor_of, access_kind, flags_of}
use Rattle.pg_guest.specs.declared.instruction.Instruction.{Instruction}
use Rattle.pg_guest.specs.declared.instruction.Instruction.TheVariants.{Write, Access, MovCr3, Invlpg, Invpcid, MovCr4Pge}
use Rattle.pg_guest.specs.declared.instruction.Task.{Task}
use Rattle.pg_guest.specs.Tasks.{shape, IsWellFormed, instructions_of}
use Rattle.pg_shadow.specs.declared.entries.Found.{Found}
use Rattle.pg_world.specs.Recording.{Recording, receipt_of}
use Rattle.pg_guest.specs.declared.advance.Advance.{Advance}
use Rattle.pg_guest.specs.declared.advance.Advance.TheVariants.{Read, Assisted, Done, Ended, Stopped}
use Rattle.pg_guest.specs.Turn.{Processor, Turned, done, assisted, goes_on, begun, turned_by, turned, MayStop, IsTurn}
use Rattle.pg_guest.specs.Transcripts.{AreWellFormed}
use Rattle.pg_guest.proofs.Cases.{goes_on_any}
use Rattle.pg_guest.proofs.Transcripts.{flags_stay, well_at}
use Rattle.pg_runner.specs.Lines.{carried, tasks_of}

-- ---- events

pub tasks_pushed : (es : List Event) (e : Event) → tasks_of (es ++ e ∷ []) ≡ tasks_of es ++ carried (processor_of e) (shape e)
tasks_pushed es e = flat_map-append (λ (e : Event). carried (processor_of e) (shape e)) es (e ∷ []) ∙ ap (λ zs. tasks_of es ++ zs) (append-nil (carried (processor_of e) (shape e)))

-- ---- a turn

-- the instruction stays the next, and no line was carried out
pub record Stays (r : Recording) (x : Processor) (t : Turned) : Type 0 where
  pub tasks : tasks_of t.world.events ≡ tasks_of r.events
  pub place : t.processor.place ≡ x.place
  pub instructions : t.processor.instructions ≡ x.instructions

-- p's next line was carried out
pub record Carries (p : ℕ) (r : Recording) (x : Processor) (t : Turned) : Type 0 where
  pub instruction : Instruction
  pub next : slice_get x.instructions x.place ≡ Some instruction
  pub tasks : tasks_of t.world.events ≡ tasks_of r.events ++ record { p = p; instruction = instruction } ∷ []
  pub place : t.processor.place ≡ x.place + 1
  pub instructions : t.processor.instructions ≡ x.instructions

abbrev pub AddsBy : ℕ → Recording → Processor → Turned → Advance → Type 0
AddsBy p r x t (Read level) = Stays r x t
AddsBy p r x t (Assisted receipt) = Stays r x t
AddsBy p r x t (Done receipt) = Carries p r x t
AddsBy p r x t Ended = slice_get x.instructions x.place ≡ None
AddsBy p r x t (Stopped why) = MayStop r (turned p r x).answer why

abbrev pub Adds : ℕ → Recording → Processor → Turned → Type 0
Adds p r x t = AddsBy p r x t t.answer

done_adds : (p : ℕ) (r : Recording) (x : Processor) (e : Event) (i : Instruction) → processor_of e ≡ p → slice_get x.instructions x.place ≡ Some i → shape e ≡ Some i →
    Adds p r x (done r x (receipt_of r.events e))
done_adds p r x e i own at same = record {
  instruction = i;
  next = at;
  tasks = tasks_pushed r.events e ∙ ap (λ o. tasks_of r.events ++ carried (processor_of e) o) same ∙ ap (λ q. tasks_of r.events ++ carried q (Some i)) own;
  place = refl;
  instructions = refl;
}

assisted_adds : (p : ℕ) (r : Recording) (x : Processor) (way : Found) (e : Event) → shape e ≡ None → Adds p r x (assisted r x way (receipt_of r.events e))
assisted_adds p r x way e none = record {
  tasks = tasks_pushed r.events e ∙ ap (λ o. tasks_of r.events ++ carried (processor_of e) o) none ∙ append-nil (tasks_of r.events);
  place = refl;
  instructions = refl;
}

access_adds : (p : ℕ) (r : Recording) (x : Processor) (flags la : ℕ) (way : Found) → AreWellFormed r.head p x → slice_get x.instructions x.place ≡ Some (Access flags la) →
    Adds p r x (goes_on p r x flags la way)
access_adds p r x flags la way well at =
    let same : flags_of (access_kind flags) ≡ flags = flags_stay r.head p flags la (well_at (IsWellFormed r.head p) x.instructions x.place (Access flags la) well at) in
    goes_on_any (Adds p r x) p r x flags la (record {
      hit = λ outcome moments. done_adds p r x (events.Access p flags la outcome moments) (Access flags la) refl at refl;
      fault = λ code moments. done_adds p r x (events.Access p (flags_of (access_kind flags)) la (outcomes.Fault code) moments) (Access flags la) refl at
          (ap (λ f. Some (Access f la)) same);
      assist = λ way bits word moments. assisted_adds p r x way (events.Assist p bits la word moments) refl;
      read = λ level way caches. record { tasks = refl; place = refl; instructions = refl };
    }) way

turned_adds : (p : ℕ) (r : Recording) (x : Processor) → AreWellFormed r.head p x → (o : Option Instruction) → slice_get x.instructions x.place ≡ o → Adds p r x (turned_by p r x o)
turned_adds p r x well None at = at
turned_adds p r x well (Some (Write addr value)) at = done_adds p r x (events.Write p addr value) _ refl at refl
turned_adds p r x well (Some (Access flags la)) at = access_adds p r x flags la (begun r.head x.caches la (access_kind flags) x.way) well at
turned_adds p r x well (Some (MovCr3 operand)) at = done_adds p r x (events.MovCr3 p operand) _ refl at refl
turned_adds p r x well (Some (Invlpg la)) at = done_adds p r x (events.Invlpg p la) _ refl at refl
turned_adds p r x well (Some (Invpcid kind pcid la)) at = done_adds p r x (events.Invpcid p kind pcid la) _ refl at refl
turned_adds p r x well (Some (MovCr4Pge on)) at = done_adds p r x (events.MovCr4Pge p on) _ refl at refl

pub turn_adds : (p : ℕ) (r : Recording) (x : Processor) (t : Turned) → AreWellFormed r.head p x → IsTurn p r x t → Adds p r x t
turn_adds p r x t well (inl halt) = subst (Adds p r x) (sym halt.is) halt.may
turn_adds p r x t well (inr went) = subst (Adds p r x) (sym went.is) (turned_adds p r x well (slice_get x.instructions x.place) refl)

-- ---- lines

-- the next line of a processor is the instruction at the count of its lines before
pub line_at : (tasks : List Task) (k : ℕ) (task : Task) → slice_get tasks k ≡ Some task →
    slice_get (instructions_of task.p tasks) (length (instructions_of task.p (take k tasks))) ≡ Some task.instruction
line_at [] k task at = absurd (cc)
line_at (t ∷ ts) zero task at =
    let same : t ≡ task = cc in
    subst (λ (q : Task). slice_get (cond (t.p == q.p) (t.instruction ∷ instructions_of q.p ts) (instructions_of q.p ts)) 0 ≡ Some q.instruction) same
    (ap (λ b. slice_get (cond b (t.instruction ∷ instructions_of t.p ts) (instructions_of t.p ts)) 0) (eq-eqb t.p t.p refl))
line_at (t ∷ ts) (suc k) task at = go (t.p == task.p) (line_at ts k task at)
  where
    own : List Instruction
    own = instructions_of task.p ts

    before : List Instruction
    before = instructions_of task.p (take k ts)

    go : (b : Bool) → slice_get own (length before) ≡ Some task.instruction →
        slice_get (cond b (t.instruction ∷ own) own) (length (cond b (t.instruction ∷ before) before)) ≡ Some task.instruction
    go true h = h
    go false h = h

pub instructions_pushed : (p : ℕ) (ts : List Task) (t : Task) → instructions_of p (ts ++ t ∷ []) ≡ instructions_of p ts ++ cond (t.p == p) (t.instruction ∷ []) []
instructions_pushed p [] t = refl
instructions_pushed p (x ∷ ts) t = go (x.p == p) (instructions_pushed p ts t)
  where
    more : List Instruction
    more = cond (t.p == p) (t.instruction ∷ []) []

    go : (b : Bool) → instructions_of p (ts ++ t ∷ []) ≡ instructions_of p ts ++ more →
        cond b (x.instruction ∷ instructions_of p (ts ++ t ∷ [])) (instructions_of p (ts ++ t ∷ [])) ≡ cond b (x.instruction ∷ instructions_of p ts) (instructions_of p ts) ++ more
    go true h = ap (λ zs. x.instruction ∷ zs) h
    go false h = h
