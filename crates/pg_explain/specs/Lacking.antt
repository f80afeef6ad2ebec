-- Which entry lacks a flag, where an access would get what it got by the walk at its event but for
-- the accessed and dirty flags (Intel SDM, vol. 3, 4.8).
use Rattle.std.specs.Prelude.{ℕ, Bool, true, false, ◌&&◌, ◌==◌, if◌then◌else◌, List, [], ◌∷◌}
use Rattle.std.specs.Prelude.{Option, Some, None}
use Rattle.std.specs.Option.{option_or}
use Rattle.pg_entry.specs.declared.Cfg.{Cfg}
use Rattle.pg_entry.specs.Kinds.{kind_of}
use Rattle.pg_event.specs.declared.claim.Claim.{Claim}
use Rattle.pg_event.specs.declared.event.Event.{Event}
use Rattle.pg_event.specs.declared.event.Event.TheVariants.{Write, Access, Assist, MovCr3, Invlpg}
use Rattle.pg_event.specs.declared.event.Event.TheVariants.{Invpcid, MovCr4Pge}
use Rattle.pg_event.specs.declared.event.Outcome.{Outcome}
use Rattle.pg_event.specs.declared.event.Outcome.TheVariants.{Page, Fault}
use Rattle.pg_event.specs.Heads.{Head, judges_accessed}
use Rattle.pg_event.specs.Walk.{Reading}
use Rattle.pg_event.specs.Wants.{want_of, is_table, uses_last}
use Rattle.pg_event.specs.Witness.{claim_of}
use Rattle.pg_explain.specs.declared.finding.Finding.{Finding}
use Rattle.pg_explain.specs.Findings.{accessed_at, dirty_finding, readings_by}
use Rattle.pg_explain.specs.Given.{given_by}

-- a walk gives this outcome, where it gives anything
abbrev pub gives : Outcome → Option Outcome → Bool
gives outcome None = false
gives (Page page) (Some (Page other)) = page == other
gives (Page page) (Some (Fault code)) = false
gives (Fault code) (Some (Page page)) = false
gives (Fault code) (Some (Fault other)) = code == other

-- what an entry lacks that is used as a table, or that ends the walk of an access
abbrev pub lacking_at : Cfg → Claim → Reading → Option Finding
lacking_at cfg c r =
    if is_table (kind_of cfg r.level r.value) then accessed_at true false r else
    option_or (accessed_at (uses_last (want_of c.outcome)) true r) (dirty_finding c r)

-- what the first entry lacks that lacks something, down to the first that is no table
abbrev pub lacking_in : Cfg → Claim → List Reading → Option Finding
lacking_in cfg c [] = None
lacking_in cfg c (r ∷ rs) =
    option_or (lacking_at cfg c r)
    (if is_table (kind_of cfg r.level r.value) then lacking_in cfg c rs else None)

abbrev pub lacking_by : Head → Claim → List Reading → Option Finding
lacking_by head c rs =
    if judges_accessed head.version && gives c.outcome (given_by head.cfg c.kind c.la rs)
    then lacking_in head.cfg c rs else None

-- what the access of an event lacks in the walk at the event
abbrev pub lacking_now : Head → List Event → ℕ → Event → Option Finding
lacking_now head events i (Write p addr value) = None
lacking_now head events i (Access p flags la outcome moments) =
    lacking_by head (claim_of i p flags la outcome)
    (readings_by head events p la (i ∷ i ∷ i ∷ i ∷ []))
lacking_now head events i (Assist p flags la word moments) = None
lacking_now head events i (MovCr3 p operand) = None
lacking_now head events i (Invlpg p la) = None
lacking_now head events i (Invpcid p kind pcid la) = None
lacking_now head events i (MovCr4Pge p on) = None
