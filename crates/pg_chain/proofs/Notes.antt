-- What a past stands for as it grows and is cut.
use Rattle.std.proofs.Common.{◌≡◌, ℕ, zero, suc, ◌+◌, ◌<◌, ◌≤◌, Bool, true, false, nat_eq, cond, List, [], ◌∷◌, ◌++◌, length, take, get_or, length-append, length-take, Some, refl, sym, ap, ◌∙◌, subst, append_assoc, arith}
use Rattle.std.specs.List.{AllByRecursion, slice_get}
use Rattle.std.proofs.lemmas.Bool.{false≢true, eqb-true}
use Rattle.std.proofs.lemmas.List.{take_more}
use Rattle.std.proofs.lemmas.Option.{slice_get_read}
use Rattle.pg_event.specs.declared.event.Event.{Event}
use Rattle.pg_event.specs.declared.event.Event.TheVariants.{Write, Access, Assist, MovCr3, Invlpg, Invpcid, MovCr4Pge}
use Rattle.pg_event.specs.Heads.{Head}
use Rattle.pg_entry.specs.Kinds.{marked}
use Rattle.pg_entry.specs.declared.Rules.{Rules}
use Rattle.pg_event.specs.declared.event.Outcome.TheVariants.{Page, Fault}
use Rattle.pg_event.specs.declared.control.Control.{Control}
use Rattle.pg_event.specs.declared.meaning.Request.{Request}
use Rattle.pg_event.specs.declared.meaning.Request.TheVariants as requests
use Rattle.pg_event.specs.declared.meaning.MemoryChange.{MemoryChange}
use Rattle.pg_event.specs.declared.meaning.MemoryChange.TheVariants as changes
use Rattle.pg_event.specs.Meaning.{request_of, change_of, changed}
use Rattle.pg_event.specs.Values.{written, mem_at}
use Rattle.pg_moment.specs.Versions as versions
use Rattle.pg_moment.specs.Versions.{Leaves, StandsFor as HasMemory}
use Rattle.pg_moment.proofs.Known as memory
use Rattle.pg_state.specs.Controls as controls
use Rattle.pg_state.proofs.Known as registers
use Rattle.pg_inval.specs.Drops as drops
use Rattle.pg_inval.specs.Drops.{Structure, Translation, DropsNothing}
use Rattle.pg_inval.proofs.Kept as dropped
use Rattle.pg_chain.specs.declared.past.Past.{Past}
use Rattle.pg_chain.specs.Standing.{IsPast, IsNext, processor_count, changes_nothing}

-- the next event comes after all that was noted
pub next_version : (past : Past) (n : ℕ) → IsNext past n → versions.next_moment past.versions ≤ n
next_version past n h = omega (arith, h.stands.versions.next, h.count)

pub next_change : (past : Past) (n : ℕ) → IsNext past n → controls.next_moment past.controls ≤ n
next_change past n h = omega (arith, h.stands.controls.next, h.count)

pub next_drop : (past : Past) (n : ℕ) → IsNext past n → drops.next_moment past.drops ≤ n
next_drop past n h = omega (arith, h.stands.drops.next, h.count)

-- ---- an event that changes memory does nothing else

abbrev changes_memory : MemoryChange → Bool
changes_memory changes.Nothing = false
changes_memory (changes.Value addr value) = true
changes_memory (changes.Flags addr dirty) = true

-- an event drops nothing, and changes no control register
record IsSilent (e : Event) : Type 0 where
  registers : controls.is_change e ≡ false
  drops : (rules : Rules) (c : Control) → DropsNothing rules c e

write_drops : (p addr value : ℕ) (rules : Rules) (c : Control) → DropsNothing rules c (Write p addr value)
write_drops p addr value rules c (Structure key) = refl
write_drops p addr value rules c (Translation key) = refl

assist_drops : (p flags la word : ℕ) (moments : List ℕ) (rules : Rules) (c : Control) → DropsNothing rules c (Assist p flags la word moments)
assist_drops p flags la word moments rules c (Structure key) = refl
assist_drops p flags la word moments rules c (Translation key) = refl

answer_drops : (p flags la page : ℕ) (moments : List ℕ) (rules : Rules) (c : Control) → DropsNothing rules c (Access p flags la (Page page) moments)
answer_drops p flags la page moments rules c (Structure key) = refl
answer_drops p flags la page moments rules c (Translation key) = refl

writer_silent : (e : Event) → changes_memory (change_of e) ≡ true → IsSilent e
writer_silent (Write p addr value) h = record { registers = refl; drops = write_drops p addr value }
writer_silent (Access p flags la outcome moments) h = absurd (false≢true h)
writer_silent (Assist p flags la word moments) h = record { registers = refl; drops = assist_drops p flags la word moments }
writer_silent (MovCr3 p operand) h = absurd (false≢true h)
writer_silent (Invlpg p la) h = absurd (false≢true h)
writer_silent (Invpcid p kind pcid la) h = absurd (false≢true h)
writer_silent (MovCr4Pge p on) h = absurd (false≢true h)

-- an event that changes memory is noted in memory alone
IsPast-stored : (old new : Past) (head : Head) (events : List Event) (e : Event) → IsSilent e → new.controls ≡ old.controls → new.drops ≡ old.drops → IsPast old head events → HasMemory new.versions (events ++ e ∷ []) → IsPast new head (events ++ e ∷ [])
IsPast-stored old new head events e silent c d h v = record {
  versions = v;
  controls = rw c (registers.StandsFor-other old.controls head events e h.controls silent.registers);
  drops = rw d (dropped.StandsFor-other old.drops head events e h.drops (silent.drops head.cfg.rules));
}

pub IsPast-value : (old new : Past) (head : Head) (events : List Event) (addr value : ℕ) (e : Event) → change_of e ≡ changes.Value addr value → new.controls ≡ old.controls → new.drops ≡ old.drops → IsPast old head events → HasMemory new.versions (events ++ e ∷ []) → IsPast new head (events ++ e ∷ [])
IsPast-value old new head events addr value e is c d h v =
    IsPast-stored old new head events e (writer_silent e (ap changes_memory is)) c d h v

pub IsPast-flags : (old new : Past) (head : Head) (events : List Event) (addr : ℕ) (dirty : Bool) (e : Event) → change_of e ≡ changes.Flags addr dirty → new.controls ≡ old.controls → new.drops ≡ old.drops → IsPast old head events → HasMemory new.versions (events ++ e ∷ []) → IsPast new head (events ++ e ∷ [])
IsPast-flags old new head events addr dirty e is c d h v =
    IsPast-stored old new head events e (writer_silent e (ap changes_memory is)) c d h v

-- what a change leaves in memory
pub Leaves-value : (events : List Event) (addr value : ℕ) (e : Event) (change : MemoryChange) → ((a v : ℕ) → changed a v change ≡ written a v e) → change ≡ changes.Value addr value → Leaves events e addr value
Leaves-value events addr value e change does is = record {
  values = λ a.
      let before : ℕ = mem_at events (length events) a in
      sym (does a before) ∙ ap (changed a before) is;
}

here : (b : Bool) (x y z : ℕ) → (b ≡ true → x ≡ y) → cond b x z ≡ cond b y z
here true x y z same = same refl
here false x y z same = refl

pub Leaves-flags : (events : List Event) (addr n before after : ℕ) (dirty : Bool) (e : Event) (change : MemoryChange) → ((a v : ℕ) → changed a v change ≡ written a v e) → change ≡ changes.Flags addr dirty →
    n ≡ length events → before ≡ mem_at events n addr → after ≡ marked dirty before → Leaves events e addr after
Leaves-flags events addr n before after dirty e change does is count read made = record {
  values = λ a.
      let value : ℕ → ℕ = λ b. marked dirty (mem_at events (length events) b) in
      let same : value addr ≡ after =
      ap (λ k. marked dirty (mem_at events k addr)) (sym count) ∙ ap (marked dirty) (sym read) ∙ sym made in
      sym (does a (mem_at events (length events) a))
      ∙ ap (changed a (mem_at events (length events) a)) is
      ∙ here (nat_eq addr a) (value a) after (mem_at events (length events) a) (λ own. ap value (sym (eqb-true addr a own)) ∙ same);
}

-- ---- an access that got its answer

-- whether a request is an access that got its answer
abbrev pub is_answered : Request → Bool
is_answered requests.Nothing = false
is_answered (requests.Access kind la (Page page) moments) = true
is_answered (requests.Access kind la (Fault code) moments) = false
is_answered (requests.Update kind la word dirty moments) = false

pub changes_nothing-request : (e : Event) → is_answered (request_of e) ≡ changes_nothing e
changes_nothing-request (Write p addr value) = refl
changes_nothing-request (Access p flags la (Page page) moments) = refl
changes_nothing-request (Access p flags la (Fault code) moments) = refl
changes_nothing-request (Assist p flags la word moments) = refl
changes_nothing-request (MovCr3 p operand) = refl
changes_nothing-request (Invlpg p la) = refl
changes_nothing-request (Invpcid p kind pcid la) = refl
changes_nothing-request (MovCr4Pge p on) = refl

-- it changes no memory
pub answered_writes : (e : Event) → changes_nothing e ≡ true → change_of e ≡ changes.Nothing
answered_writes (Write p addr value) h = absurd (false≢true h)
answered_writes (Access p flags la outcome moments) h = refl
answered_writes (Assist p flags la word moments) h = absurd (false≢true h)
answered_writes (MovCr3 p operand) h = refl
answered_writes (Invlpg p la) h = refl
answered_writes (Invpcid p kind pcid la) h = refl
answered_writes (MovCr4Pge p on) h = refl

-- it is noted nowhere
pub IsPast-answered : (past : Past) (head : Head) (events : List Event) (e : Event) → changes_nothing e ≡ true → IsPast past head events → IsPast past head (events ++ e ∷ [])
IsPast-answered past head events (Access p flags la (Page page) moments) h past_is = record {
  versions = memory.StandsFor-other past.versions events (Access p flags la (Page page) moments) past_is.versions (λ a value. refl);
  controls = registers.StandsFor-other past.controls head events (Access p flags la (Page page) moments) past_is.controls refl;
  drops = dropped.StandsFor-other past.drops head events (Access p flags la (Page page) moments) past_is.drops (answer_drops p flags la page moments head.cfg.rules);
}
IsPast-answered past head events (Access p flags la (Fault code) moments) h past_is = absurd (false≢true h)
IsPast-answered past head events (Write p addr value) h past_is = absurd (false≢true h)
IsPast-answered past head events (Assist p flags la word moments) h past_is = absurd (false≢true h)
IsPast-answered past head events (MovCr3 p operand) h past_is = absurd (false≢true h)
IsPast-answered past head events (Invlpg p la) h past_is = absurd (false≢true h)
IsPast-answered past head events (Invpcid p kind pcid la) h past_is = absurd (false≢true h)
IsPast-answered past head events (MovCr4Pge p on) h past_is = absurd (false≢true h)

-- what holds of each event holds of the one at a place
pub AllByRecursion-at : (P : Event → Type 0) (es : List Event) (i : ℕ) (e : Event) → AllByRecursion P es → slice_get es i ≡ Some e → P e
AllByRecursion-at P [] i e all at = cc
AllByRecursion-at P (x ∷ xs) zero e all at = let same : x ≡ e = cc in subst P same all.0
AllByRecursion-at P (x ∷ xs) (suc i) e all at = AllByRecursion-at P xs i e all.1 at

pub AllByRecursion-read : (P : Event → Type 0) (es : List Event) (i : ℕ) (e : Event) → AllByRecursion P es → i < length es → e ≡ get_or es i e → P e
AllByRecursion-read P es i e all h is = AllByRecursion-at P es i e all (slice_get_read es (length es) i e refl h is)

-- a run with some events of a list is one event longer with one more
pub run_more : (before es : List Event) (i : ℕ) (e : Event) → i < length es → e ≡ get_or es i e → (before ++ take i es) ++ e ∷ [] ≡ before ++ take (i + 1) es
run_more before es i e h is =
    append_assoc before (take i es) (e ∷ [])
    ∙ ap (λ (x : Event). before ++ (take i es ++ x ∷ [])) is
    ∙ ap (λ (xs : List Event). before ++ xs) (sym (take_more es i e h))

pub run_count : (before es : List Event) (n i : ℕ) → n ≡ length before → i ≤ length es → n + i ≡ length (before ++ take i es)
run_count before es n i h le = simp (length-append, length-take) (omega (arith, h))

pub processor_count-past : (past : Past) (head : Head) (events : List Event) → IsPast past head events → processor_count past ≡ length head.processors
processor_count-past past head events h = ap (λ (d : Head). length d.processors) h.controls.settings
