-- Processors at their places.
use Rattle.std.proofs.Common.{◌≡◌, ℕ, ◌<◌, zero, suc, List, [], ◌∷◌, ◌++◌, length, map, get_or, Some, refl, sym, ◌∙◌, ap, subst, arith}
use Rattle.std.specs.Prelude.{slice_get, slice_set}
use Rattle.std.specs.List.{AllByRecursion}
use Rattle.std.specs.Option.{option_map}
use Rattle.std.proofs.lemmas.List.{map-set}
use Rattle.std.proofs.lemmas.Option.{same_Some, slice_get-map}
use Rattle.pg_guest.specs.declared.instruction.Instruction.{Instruction}
use Rattle.pg_guest.specs.Reading.{Scripted}
use Rattle.pg_guest.specs.Tasks.{IsWellFormed, instructions_of}
use Rattle.pg_world.specs.Recording.{Recording}
use Rattle.pg_guest.specs.declared.advance.Advance.{Advance}
use Rattle.pg_guest.specs.CoreRun.{unwritten, IsCoreRun}
use Rattle.pg_guest.specs.Laws.{IsQuiet}
use Rattle.pg_guest.specs.Transcripts.{IsTold, AreWellFormed, AreTold}
use Rattle.pg_guest.specs.Turn.{Processor, Turned, fresh, IsTurn}
use Rattle.pg_guest.proofs.CoreRuns.{core_runs_go_on, fresh_are_quiet}
use Rattle.pg_guest.proofs.Transcripts.{fresh_are_told}
use Rattle.pg_guest.specs.Held.{Held, seen}
use Rattle.pg_guest.specs.Runs.{IsPlaced, ArePlaced, IsNew, AreNew}
use Rattle.pg_guest.specs.Steps.{IsOfRun}
use Rattle.pg_guest.proofs.Runs.{stays_of_run, others_of_run}

-- ---- lists

-- what holds of each element at its place, and of one more, holds of each with it
pushed : (P : ℕ → Held → Type 0) (hs : List Held) (h : Held) → ((k : ℕ) (x : Held) → slice_get hs k ≡ Some x → P k x) → P (length hs) h →
    (k : ℕ) (x : Held) → slice_get (hs ++ h ∷ []) k ≡ Some x → P k x
pushed P [] h all here zero x is = subst (P 0) (same_Some h x is) here
pushed P [] h all here (suc k) x is = absurd (cc)
pushed P (y ∷ ys) h all here zero x is = all zero x is
pushed P (y ∷ ys) h all here (suc k) x is = pushed (λ n. P (suc n)) ys h (λ k x. all (suc k) x) here k x is

-- what held of each element, and then of the one that was set, holds of each
set_each : (P Q : ℕ → Held → Type 0) (hs : List Held) (p : ℕ) (y : Held) → ((q : ℕ) (z : Held) → slice_get hs q ≡ Some z → P q z) → ((q : ℕ) (z : Held) → P q z → Q q z) → Q p y →
    (q : ℕ) (z : Held) → slice_get (slice_set hs p y) q ≡ Some z → Q q z
set_each P Q [] p y all more here q z is = absurd (cc)
set_each P Q (x ∷ hs) zero y all more here zero z is = subst (Q 0) (same_Some y z is) here
set_each P Q (x ∷ hs) zero y all more here (suc q) z is = more (suc q) z (all (suc q) z is)
set_each P Q (x ∷ hs) (suc p) y all more here zero z is = more 0 z (all 0 z is)
set_each P Q (x ∷ hs) (suc p) y all more here (suc q) z is =
    set_each (λ n. P (suc n)) (λ n. Q (suc n)) hs p y (λ q z. all (suc q) z) (λ q z. more (suc q) z) here q z is

-- each turn is one of a processor that there is
pub turn_within : (n : ℕ) (turns : List ℕ) (k : ℕ) → AllByRecursion (λ p. p < n) turns → k < length turns → get_or turns k 0 < n
turn_within n [] k all within = absurd (omega arith)
turn_within n (p ∷ ps) zero all within = all.0
turn_within n (p ∷ ps) (suc k) all within = turn_within n ps k all.1 (omega arith)

-- ---- new processors

-- so many processors of a script
pub record AreMade (script : Scripted) (n : ℕ) (hs : List Held) : Type 0 where
  pub count : length hs ≡ n
  pub each : (p : ℕ) (h : Held) → slice_get hs p ≡ Some h → IsNew script p h

pub is_new : (script : Scripted) (p : ℕ) (h : Held) (own : List Instruction) → h.number ≡ p → seen h ≡ fresh script.head p own → own ≡ instructions_of p script.tasks →
    AllByRecursion (IsWellFormed script.head p) (instructions_of p script.tasks) → IsNew script p h
is_new script p h own number made is well =
    let fresh_is : seen h ≡ fresh script.head p (instructions_of p script.tasks) = made ∙ ap (fresh script.head p) is in
    let P : Processor → Type 0 = IsOfRun script.head p in record {
      placed = record { number = number; run = subst P (sym fresh_is) (record { width = refl; well = well }) };
      fresh_is = fresh_is;
    }

pub one_more : (script : Scripted) (p : ℕ) (hs : List Held) (h : Held) → AreMade script p hs → IsNew script p h → (k : ℕ) (x : Held) → slice_get (hs ++ h ∷ []) k ≡ Some x → IsNew script k x
one_more script p hs h made new =
    pushed (IsNew script) hs h made.each (subst (λ n. IsNew script n h) (sym made.count) new)

-- the processors as their turns see them
seen_at : (hs : List Held) (p : ℕ) (x : Processor) → slice_get (map seen hs) p ≡ Some x → (h : Held) × (slice_get hs p ≡ Some h) × (seen h ≡ x)
seen_at [] p x is = absurd (cc)
seen_at (h ∷ hs) zero x is = (h, refl, same_Some (seen h) x is)
seen_at (h ∷ hs) (suc p) x is = seen_at hs p x is

seen_new : (script : Scripted) (hs : List Held) → AreNew script hs → (p : ℕ) (x : Processor) → slice_get (map seen hs) p ≡ Some x →
    AreWellFormed script.head p x × (x ≡ fresh script.head p (instructions_of p script.tasks))
seen_new script hs new p x is =
    let at = seen_at hs p x is in
    let here : IsNew script p at.0 = new.each p at.0 at.1 in
    (subst (AreWellFormed script.head p) at.2 here.placed.run.well, sym at.2 ∙ here.fresh_is)

pub new_are_quiet : (script : Scripted) (hs : List Held) → AreNew script hs → IsQuiet (unwritten script.head) (map seen hs)
new_are_quiet script hs new = fresh_are_quiet script.head (map seen hs) (λ p x is. (instructions_of p script.tasks, (seen_new script hs new p x is).1))

pub new_are_told : (script : Scripted) (hs : List Held) → AreNew script hs → AreTold (unwritten script.head) (map seen hs)
new_are_told script hs new = record {
  well = λ p x is. (seen_new script hs new p x is).0;
  told = λ p x is. subst (IsTold [] p) (sym (seen_new script hs new p x is).1) (fresh_are_told script.head p (instructions_of p script.tasks));
}

-- ---- turns

-- after these turns, with these answers
pub record IsDriven (r : Recording) (hs : List Held) (ps : List ℕ) (answers : List Advance) (end : Recording) (after : List Held) : Type 0 where
  pub run : IsCoreRun r (map seen hs) ps answers end (map seen after)
  pub placed : ArePlaced end.head after

pub driven_on : (r : Recording) (hs : List Held) (ps : List ℕ) (answers : List Advance) (end : Recording) (after : List Held) (p : ℕ) (h : Held) (a : Advance) (more : Recording) (y : Held) →
    IsDriven r hs ps answers end after → slice_get after p ≡ Some h → IsTurn h.number end (seen h) (record { answer = a; world = more; processor = seen y }) → y.number ≡ h.number →
    IsDriven r hs (ps ++ p ∷ []) (answers ++ a ∷ []) more (slice_set after p y)
driven_on r hs ps answers end after p h a more y driven here turn same =
    let was = driven.placed p h here in
    let t : Turned = record { answer = a; world = more; processor = seen y } in
    let own : IsTurn p end (seen h) t = subst (λ n. IsTurn n end (seen h) t) was.number turn in
    let at : slice_get (map seen after) p ≡ Some (seen h) = slice_get-map seen after p ∙ ap (option_map seen) here in
    let run = core_runs_go_on r (map seen hs) ps answers end (map seen after) p (seen h) t driven.run at own in record {
      run = subst (λ (xs : List Processor). IsCoreRun r (map seen hs) (ps ++ p ∷ []) (answers ++ a ∷ []) more xs) (sym (map-set seen after p y)) run;
      placed = set_each (IsPlaced end.head) (IsPlaced more.head) after p y driven.placed
          (λ q z at. record { number = at.number; run = others_of_run p q end (seen h) (seen z) t own at.run })
          (record { number = same ∙ was.number; run = stays_of_run p end (seen h) t own was.run });
    }

-- and where they stood at their places, all do after one turn
pub placed_on : (r : Recording) (hs : List Held) (p : ℕ) (h : Held) (a : Advance) (more : Recording) (y : Held) → ArePlaced r.head hs → slice_get hs p ≡ Some h →
    IsTurn h.number r (seen h) (record { answer = a; world = more; processor = seen y }) → y.number ≡ h.number → ArePlaced more.head (slice_set hs p y)
placed_on r hs p h a more y placed here turn same =
    (driven_on r hs [] [] r hs p h a more y (record { run = (refl, refl, refl); placed = placed }) here turn same).placed
