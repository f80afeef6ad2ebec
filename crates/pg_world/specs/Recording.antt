-- A record in the making.
use Rattle.std.specs.Prelude.{◌≡◌, ℕ, ◌+◌, ◌-◌, ◌*◌, ◌/◌, ◌^◌, Bool, true, false, not, ◌&&◌}
use Rattle.std.specs.Prelude.{◌==◌, nat_lt, if◌then◌else◌, List, [], ◌∷◌, ◌++◌, length, take}
use Rattle.std.specs.Prelude.{drop, Option, Some, None, IsTrue}
use Rattle.std.specs.Option.{is_none}
use Rattle.std.specs.Int.{div_ceil}
use Rattle.pg_event.specs.declared.event.Event.{Event}
use Rattle.pg_event.specs.declared.event.Event.TheVariants.{Write, Access, Assist, MovCr3, Invlpg}
use Rattle.pg_event.specs.declared.event.Event.TheVariants.{Invpcid, MovCr4Pge}
use Rattle.pg_event.specs.Heads.{Head}
use Rattle.pg_event.specs.Form.{processor_of, broken_rule}
use Rattle.pg_event.specs.Spelling.{Recorded}
use Rattle.pg_world.specs.declared.receipt.Receipt.{Receipt}
use Rattle.pg_world.specs.declared.error.WorldError.{WorldError}
use Rattle.pg_world.specs.declared.error.WorldError.TheVariants as errors

-- the settings of a run, its events so far, how many sealed segments were given out, and whether
-- the record is finished
pub record Recording : Type 0 where
  pub head : Head
  pub events : List Event
  pub taken : ℕ
  pub finished : Bool

-- the record of the events so far
abbrev pub recorded : Recording → Recorded
recorded r = record { head = r.head; events = r.events }

-- how many segments are sealed: the full ones, and in a finished record also a last short one
abbrev pub sealed_count : Recording → ℕ
sealed_count r =
    if r.finished then div_ceil (length r.events) r.head.segment
    else length r.events / r.head.segment

-- the events of the segment with this number
abbrev pub segment_of : Recording → ℕ → List Event
segment_of r k = take r.head.segment (drop (k * r.head.segment) r.events)

-- as many events stand as a record may have
abbrev pub is_full : Recording → Bool
is_full r = not (nat_lt (length r.events) (2 ^ 32 - 1))

-- the receipt of the event that comes after these
abbrev pub receipt_of : List Event → Event → Receipt
receipt_of es e = record { moment = length es; event = e }

-- the record with one more event
abbrev pub with_event : Recording → Event → Recording
with_event r e = record r { events = r.events ++ e ∷ [] }

-- the record with one more segment given out
abbrev pub with_taken : Recording → Recording
with_taken r = record r { taken = r.taken + 1 }

abbrev pub is_well_formed : Head → Event → Bool
is_well_formed head e = is_none (broken_rule head e)

abbrev pub is_access : Event → Bool
is_access (Write p addr value) = false
is_access (Access p flags la outcome moments) = true
is_access (Assist p flags la word moments) = false
is_access (MovCr3 p operand) = false
is_access (Invlpg p la) = false
is_access (Invpcid p kind pcid la) = false
is_access (MovCr4Pge p on) = false

-- whether an event is an instruction that changes control registers or invalidates
abbrev pub is_control : Event → Bool
is_control (Write p addr value) = false
is_control (Access p flags la outcome moments) = false
is_control (Assist p flags la word moments) = false
is_control (MovCr3 p operand) = true
is_control (Invlpg p la) = true
is_control (Invpcid p kind pcid la) = true
is_control (MovCr4Pge p on) = true

-- whether an event is p's, and well formed
abbrev pub is_own : Head → ℕ → Event → Bool
is_own head p e = processor_of e == p && is_well_formed head e

-- the least reason to refuse a call, memory apart: what it asks for must be well formed, and it may
-- add an event
abbrev pub refusal : Recording → Bool → Bool → Option WorldError
refusal r formed adds =
    if not formed then Some errors.Malformed else
    if adds && is_full r then Some errors.Full else
    if r.finished then Some errors.Finished else None

-- the least reason for which the record refuses an event, by `commit` or `control`, memory apart
abbrev pub event_refusal : Recording → Event → Option WorldError
event_refusal r e = refusal r (is_well_formed r.head e) true

abbrev pub commit_refusal : Recording → ℕ → Event → Option WorldError
commit_refusal r p e = refusal r (is_access e && is_own r.head p e) true

abbrev pub control_refusal : Recording → ℕ → Event → Option WorldError
control_refusal r p e = refusal r (is_control e && is_own r.head p e) true

-- a call is refused by the least reason there is; where there is none, because memory ran out,
-- which only a call that adds an event meets
abbrev pub IsRefusedBy : Bool → Option WorldError → WorldError → Type 0
IsRefusedBy adds (Some reason) error = error ≡ reason
IsRefusedBy adds None error = IsTrue adds × (error ≡ errors.Memory)
