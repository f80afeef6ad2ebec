-- What an access gets by what a walk reads, by the rights (Intel SDM, vol. 3, 4.5 to 4.7).
use Rattle.std.specs.Prelude.{ℕ, ◌+◌, ◌%◌, ◌^◌, if◌then◌else◌, List, [], ◌∷◌, Option, Some, None}
use Rattle.std.specs.Option.{option_or}
use Rattle.pg_entry.specs.declared.AccessKind.{AccessKind}
use Rattle.pg_entry.specs.declared.Cause.TheVariants as causes
use Rattle.pg_entry.specs.declared.Cfg.{Cfg}
use Rattle.pg_entry.specs.declared.Kind.{Kind}
use Rattle.pg_entry.specs.declared.Kind.TheVariants.{Leaf, Table, Absent, Reserved}
use Rattle.pg_entry.specs.declared.Rights.{Rights}
use Rattle.pg_entry.specs.Kinds.{kind_of}
use Rattle.pg_entry.specs.Permission.{is_allowed, fault_code}
use Rattle.pg_event.specs.declared.event.Event.{Event}
use Rattle.pg_event.specs.declared.event.Event.TheVariants.{Write, Access, Assist, MovCr3, Invlpg}
use Rattle.pg_event.specs.declared.event.Event.TheVariants.{Invpcid, MovCr4Pge}
use Rattle.pg_event.specs.declared.event.Outcome.{Outcome}
use Rattle.pg_event.specs.declared.event.Outcome.TheVariants.{Page, Fault}
use Rattle.pg_event.specs.Form.{access_kind}
use Rattle.pg_event.specs.Heads.{Head}
use Rattle.pg_event.specs.Walk.{Reading}
use Rattle.pg_explain.specs.Findings.{readings_by}

-- the byte's address in a page, if the rights of the walk allow the access, else a page fault
abbrev pub leaf_given : Cfg → AccessKind → Rights → ℕ → Outcome
leaf_given cfg access rights address =
    if is_allowed cfg rights access then Page address
    else Fault (fault_code cfg access causes.Denied)

-- what an entry gives at which a walk ends; a table gives nothing
abbrev pub given_at : Cfg → AccessKind → ℕ → Rights → Kind → Option Outcome
given_at cfg access la rights (Leaf frame shift global_bit) =
    Some (leaf_given cfg access rights (frame + la % 2 ^ shift))
given_at cfg access la rights Absent = Some (Fault (fault_code cfg access causes.Absent))
given_at cfg access la rights Reserved = Some (Fault (fault_code cfg access causes.Reserved))
given_at cfg access la rights (Table addr) = None

-- what the first entry gives that is no table
abbrev pub given_by : Cfg → AccessKind → ℕ → List Reading → Option Outcome
given_by cfg access la [] = None
given_by cfg access la (r ∷ rs) =
    option_or (given_at cfg access la r.rights (kind_of cfg r.level r.value))
    (given_by cfg access la rs)

-- what a walk of processor p at a moment gives
abbrev pub given_then : Head → List Event → ℕ → ℕ → ℕ → ℕ → Option Outcome
given_then head events p flags la w =
    given_by head.cfg (access_kind flags) la
    (readings_by head events p la (w ∷ w ∷ w ∷ w ∷ []))

-- what the access of an event would get by the walk at the event
abbrev pub given_now : Head → List Event → ℕ → Event → Option Outcome
given_now head events i (Write p addr value) = None
given_now head events i (Access p flags la outcome moments) = given_then head events p flags la i
given_now head events i (Assist p flags la word moments) = given_then head events p flags la i
given_now head events i (MovCr3 p operand) = None
given_now head events i (Invlpg p la) = None
given_now head events i (Invpcid p kind pcid la) = None
given_now head events i (MovCr4Pge p on) = None
