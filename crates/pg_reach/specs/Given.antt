-- Which outcomes of an access an entry gives that is read last (Intel SDM, vol. 3, 4.5 and 4.7).
use Rattle.std.specs.Prelude.{◌≡◌, ℕ, ◌+◌, ◌%◌, ◌^◌, Option, Some, None}
use Rattle.pg_entry.specs.declared.Cfg.{Cfg}
use Rattle.pg_entry.specs.declared.AccessKind.{AccessKind}
use Rattle.pg_entry.specs.declared.Cause.{Cause}
use Rattle.pg_entry.specs.declared.Cause.TheVariants as causes
use Rattle.pg_entry.specs.declared.Kind.{Kind}
use Rattle.pg_entry.specs.declared.Kind.TheVariants as kinds
use Rattle.pg_entry.specs.declared.Level.{Level}
use Rattle.pg_entry.specs.Kinds.{kind_of}
use Rattle.pg_entry.specs.Permission.{fault_code}
use Rattle.pg_event.specs.declared.event.Event.{Event}
use Rattle.pg_event.specs.declared.event.Event.TheVariants.{Write, Access, Assist, MovCr3, Invlpg}
use Rattle.pg_event.specs.declared.event.Event.TheVariants.{Invpcid, MovCr4Pge}
use Rattle.pg_event.specs.declared.event.Outcome.{Outcome}
use Rattle.pg_event.specs.declared.event.Outcome.TheVariants.{Page, Fault}
use Rattle.pg_event.specs.Form.{access_kind}

-- the physical address that a linear one gets by an entry of a kind, where that is a page
abbrev pub page_of : Kind → ℕ → Option ℕ
page_of (kinds.Leaf frame shift global_bit) la = Some (frame + la % 2 ^ shift)
page_of (kinds.Table addr) la = None
page_of kinds.Absent la = None
page_of kinds.Reserved la = None

-- that of an entry of a level
abbrev pub page_by : Cfg → Level → ℕ → ℕ → Option ℕ
page_by cfg level value la = page_of (kind_of cfg level value) la

-- why an access faults by an entry of a kind that is read last: a page faults if the rights deny
-- the access
abbrev pub cause_of : Kind → Option Cause
cause_of (kinds.Leaf frame shift global_bit) = Some causes.Denied
cause_of (kinds.Table addr) = None
cause_of kinds.Absent = Some causes.Absent
cause_of kinds.Reserved = Some causes.Reserved

-- the code of that fault
abbrev pub code_by : Cfg → AccessKind → Option Cause → Option ℕ
code_by cfg access None = None
code_by cfg access (Some cause) = Some (fault_code cfg access cause)

-- an outcome is one that an entry of a kind gives
abbrev pub IsGiven : Cfg → AccessKind → ℕ → Kind → Outcome → Type 0
IsGiven cfg access la kind (Page page) = page_of kind la ≡ Some page
IsGiven cfg access la kind (Fault code) = code_by cfg access (cause_of kind) ≡ Some code

-- where an event is an access, its outcome is one that the kind gives
abbrev pub GivesBy : Cfg → Event → Kind → Type 0
GivesBy cfg (Access p flags la outcome moments) kind =
    IsGiven cfg (access_kind flags) la kind outcome
GivesBy cfg (Assist p flags la word moments) kind = Unit {0}
GivesBy cfg (Write p addr value) kind = Unit {0}
GivesBy cfg (MovCr3 p operand) kind = Unit {0}
GivesBy cfg (Invlpg p la) kind = Unit {0}
GivesBy cfg (Invpcid p kind_of_it pcid la) kind = Unit {0}
GivesBy cfg (MovCr4Pge p on) kind = Unit {0}
