-- Why a call that is well formed is refused.
use Rattle.std.proofs.Common.{◌≡◌, ◌⊎◌, ℕ, Bool, true, false, ◌&&◌, cond, Option, Some, None, refl, sym, ◌∙◌, ap, subst, inl, inr}
use Rattle.pg_entry.specs.declared.Level.{Level}
use Rattle.pg_guest.specs.declared.advance.Stop.{Stop}
use Rattle.pg_guest.specs.declared.advance.Stop.TheVariants as stops
use Rattle.pg_guest.specs.Turn.{MayStop, refused_by}
use Rattle.pg_world.specs.declared.error.WorldError.{WorldError}
use Rattle.pg_world.specs.declared.error.WorldError.TheVariants as errors
use Rattle.pg_world.specs.declared.walk.LevelRead.{LevelRead}
use Rattle.pg_world.specs.declared.walk.LevelRead.TheVariants.{Entry, Fault, Assisted}
use Rattle.pg_world.specs.Recording.{Recording, is_full, refusal, IsRefusedBy}
use Rattle.pg_world.specs.Walks.{adds_event}
use Rattle.pg_guest.specs.Steps.{IsStopOf, answer_of}

-- the error that the record refuses by, and the reason for which the turn is stopped then
abbrev error_by : Bool → Bool → Bool → Option WorldError
error_by adds full finished = cond (adds && full) (Some errors.Full) (cond finished (Some errors.Finished) None)

abbrev reason_by : Bool → Bool → Bool → Option Stop
reason_by adds full finished = cond (adds && full) (Some stops.Full) (cond finished (Some stops.Finished) None)

-- an error stands for a reason to stop
record Stands (reason : Option Stop) (error : WorldError) : Type 0 where
  formed : error ≡ errors.Malformed → ⊥
  may : (why : Stop) → IsStopOf error why → (why ≡ stops.Memory) ⊎ (reason ≡ Some why)

is_memory : (reason : Option Stop) → Stands reason errors.Memory
is_memory reason = record { formed = λ h. cc; may = λ why h. inl h }

is_full_error : Stands (Some stops.Full) errors.Full
is_full_error = record { formed = λ h. cc; may = λ why h. inr (ap Some (sym h)) }

is_finished_error : Stands (Some stops.Finished) errors.Finished
is_finished_error = record { formed = λ h. cc; may = λ why h. inr (ap Some (sym h)) }

stands : (adds full finished : Bool) (error : WorldError) → IsRefusedBy adds (error_by adds full finished) error → Stands (reason_by adds full finished) error
stands true true finished error h = subst (Stands (Some stops.Full)) (sym h) is_full_error
stands true false true error h = subst (Stands (Some stops.Finished)) (sym h) is_finished_error
stands true false false error h = subst (Stands None) (sym h.1) (is_memory None)
stands false full true error h = subst (Stands (Some stops.Finished)) (sym h) is_finished_error
stands false full false error h = subst (Stands None) (sym h.1) (is_memory None)

-- the record refuses what a read comes to by this reason
reason_of : (r : Recording) (level : Level) (found : LevelRead) → reason_by (adds_event found) (is_full r) r.finished ≡ refused_by r (answer_of level found)
reason_of r level (Entry value moment) = refl
reason_of r level (Fault receipt) = refl
reason_of r level (Assisted receipt) = refl

pub read_formed : (r : Recording) (found : LevelRead) (error : WorldError) → IsRefusedBy (adds_event found) (refusal r true (adds_event found)) error → error ≡ errors.Malformed → ⊥
read_formed r found error h = (stands (adds_event found) (is_full r) r.finished error h).formed

pub read_stop : (r : Recording) (level : Level) (found : LevelRead) (error : WorldError) (why : Stop) →
    IsRefusedBy (adds_event found) (refusal r true (adds_event found)) error → IsStopOf error why → MayStop r (answer_of level found) why
read_stop r level found error why h is =
    subst (λ (reason : Option Stop). (why ≡ stops.Memory) ⊎ (reason ≡ Some why)) (reason_of r level found) ((stands (adds_event found) (is_full r) r.finished error h).may why is)

-- a read that is not refused asks for nothing that the record refuses
granted_by : (adds full finished : Bool) → error_by adds full finished ≡ None → reason_by adds full finished ≡ None
granted_by true true finished h = absurd (cc)
granted_by true false true h = absurd (cc)
granted_by true false false h = refl
granted_by false full true h = absurd (cc)
granted_by false full false h = refl

pub read_granted : (r : Recording) (level : Level) (found : LevelRead) → refusal r true (adds_event found) ≡ None → refused_by r (answer_of level found) ≡ None
read_granted r level found h = sym (reason_of r level found) ∙ granted_by (adds_event found) (is_full r) r.finished h

-- where it is an entry, the record is not finished
granted_open : (finished : Bool) → cond finished (Some stops.Finished) None ≡ None → finished ≡ false
granted_open true h = absurd (cc)
granted_open false h = refl

pub entry_unfinished : (r : Recording) (level : Level) (found : LevelRead) (value moment : ℕ) → found ≡ Entry value moment → refused_by r (answer_of level found) ≡ None → r.finished ≡ false
entry_unfinished r level found value moment is h = granted_open r.finished (subst (λ f. refused_by r (answer_of level f) ≡ None) is h)
