-- What is found for the least reason that fails for an access or an assist. Each definition goes
-- through the tests of the reason in their order, and tells what the first that fails found.
use Rattle.std.specs.Prelude.{ℕ, ◌+◌, ◌%◌, ◌^◌, Bool, true, false, not, ◌&&◌, ◌||◌, ◌==◌}
use Rattle.std.specs.Prelude.{nat_le, if◌then◌else◌, List, [], ◌∷◌, Option, Some, None}
use Rattle.std.specs.Prelude.{slice_get, option_and_then}
use Rattle.std.specs.Option.{option_or}
use Rattle.pg_entry.specs.declared.Cfg.{Cfg}
use Rattle.pg_entry.specs.declared.AccessKind.{AccessKind}
use Rattle.pg_entry.specs.declared.Op.{Op}
use Rattle.pg_entry.specs.declared.Op.TheVariants as ops
use Rattle.pg_entry.specs.declared.Level.{Level}
use Rattle.pg_entry.specs.declared.Level.TheVariants.{Four}
use Rattle.pg_entry.specs.declared.Rights.{Rights}
use Rattle.pg_entry.specs.declared.Kind.{Kind}
use Rattle.pg_entry.specs.declared.Kind.TheVariants as kinds
use Rattle.pg_entry.specs.declared.Cause.{Cause}
use Rattle.pg_entry.specs.declared.Cause.TheVariants as causes
use Rattle.pg_entry.specs.Kinds.{accessed, dirty, kind_of}
use Rattle.pg_entry.specs.Permission.{all_rights, is_allowed, fault_code}
use Rattle.pg_event.specs.declared.event.Event.{Event}
use Rattle.pg_event.specs.declared.event.Event.TheVariants.{Write, Access, Assist, MovCr3, Invlpg}
use Rattle.pg_event.specs.declared.event.Event.TheVariants.{Invpcid, MovCr4Pge}
use Rattle.pg_event.specs.declared.event.Outcome.{Outcome}
use Rattle.pg_event.specs.declared.event.Outcome.TheVariants.{Page, Fault}
use Rattle.pg_event.specs.declared.event.Reason.{Reason}
use Rattle.pg_event.specs.declared.event.Reason.TheVariants as reasons
use Rattle.pg_event.specs.declared.event.Want.{Want}
use Rattle.pg_event.specs.declared.event.Want.TheVariants as wants
use Rattle.pg_event.specs.declared.version.Version.{Version}
use Rattle.pg_event.specs.declared.claim.Claim.{Claim}
use Rattle.pg_event.specs.declared.claim.Update.{Update}
use Rattle.pg_event.specs.Heads.{Head, judges_accessed}
use Rattle.pg_event.specs.Invalidation.{structure_key, translation_key}
use Rattle.pg_event.specs.Values.{mem_at, control_at}
use Rattle.pg_event.specs.Walk.{Reading, below}
use Rattle.pg_event.specs.Wants.{want_of, is_wanted, is_table, uses_last}
use Rattle.pg_event.specs.Witness.{last_or, is_done_write, claim_of, update_of, walked}
use Rattle.pg_explain.specs.declared.dropped.CacheKey.TheVariants as caches
use Rattle.pg_explain.specs.declared.finding.Tagged.{Tagged}
use Rattle.pg_explain.specs.declared.finding.Limit.{Limit}
use Rattle.pg_explain.specs.declared.finding.Limit.TheVariants as limits
use Rattle.pg_explain.specs.declared.finding.Wish.{Wish}
use Rattle.pg_explain.specs.declared.finding.Wish.TheVariants as wishes
use Rattle.pg_explain.specs.declared.finding.Misfit.TheVariants as misfits
use Rattle.pg_explain.specs.declared.finding.Prevention.{Prevention}
use Rattle.pg_explain.specs.declared.finding.Prevention.TheVariants.{Smap, Smep}
use Rattle.pg_explain.specs.declared.finding.Finding.{Finding}
use Rattle.pg_explain.specs.declared.finding.Finding.TheVariants as findings
use Rattle.pg_explain.specs.declared.walk_finding.Asked.{Asked}
use Rattle.pg_explain.specs.Drops.{first_drop}

-- the reason that a finding is of
abbrev pub reason_of : Finding → Reason
reason_of (findings.Order level moment limit) = reasons.Order
reason_of (findings.Entry level wish kind) = reasons.Entry
reason_of (findings.Context first other) = reasons.Context
reason_of (findings.StructureDropped level at) = reasons.StructureDropped
reason_of (findings.TranslationDropped level at) = reasons.TranslationDropped
reason_of (findings.ForeignPcid read current) = reasons.ForeignPcid
reason_of (findings.NotAtEvent moment address value kind) = reasons.NotAtEvent
reason_of (findings.Rights rights access allowed prevention) = reasons.Rights
reason_of (findings.Answer expected) = reasons.Answer
reason_of (findings.Code expected) = reasons.Code
reason_of (findings.Accessed level address value) = reasons.Accessed
reason_of (findings.Dirty address value) = reasons.Dirty
reason_of (findings.Assist misfit) = reasons.Assist

-- the event by which a cached entry had to go, where one had to
abbrev pub dropper : Finding → Option ℕ
dropper (findings.Order level moment limit) = None
dropper (findings.Entry level wish kind) = None
dropper (findings.Context first other) = None
dropper (findings.StructureDropped level at) = Some at
dropper (findings.TranslationDropped level at) = Some at
dropper (findings.ForeignPcid read current) = None
dropper (findings.NotAtEvent moment address value kind) = None
dropper (findings.Rights rights access allowed prevention) = None
dropper (findings.Answer expected) = None
dropper (findings.Code expected) = None
dropper (findings.Accessed level address value) = None
dropper (findings.Dirty address value) = None
dropper (findings.Assist misfit) = None

-- ---- the walk

-- what a moment must not be above: the next one, or the event where it is the last
abbrev pub limit_of : ℕ → List ℕ → Limit
limit_of number [] = limits.Event number
limit_of number (w ∷ ws) = limits.Moment w

abbrev pub limit_number : Limit → ℕ
limit_number (limits.Event number) = number
limit_number (limits.Moment w) = w

abbrev pub order_at : Level → ℕ → Limit → Option Finding
order_at level w limit =
    if nat_le w (limit_number limit) then None else Some (findings.Order level w limit)

-- the first moment above its limit, where the first of all is that of this level
abbrev pub order_finding : ℕ → Level → List ℕ → Option Finding
order_finding number level [] = None
order_finding number level (w ∷ ws) =
    option_or (order_at level w (limit_of number ws)) (order_finding number (below level) ws)

abbrev pub is_last : List Reading → Bool
is_last [] = true
is_last (r ∷ rs) = false

-- what an entry must be: what the event wants where it is the last, else a table
abbrev pub wish_at : Want → Bool → Wish
wish_at want last = if last then wishes.Last want else wishes.Table

abbrev pub is_wished : Wish → Kind → Bool
is_wished (wishes.Last want) kind = is_wanted want kind
is_wished wishes.Table kind = is_table kind

abbrev pub entry_at : Cfg → Wish → Reading → Option Finding
entry_at cfg wish r =
    let kind = kind_of cfg r.level r.value in
    if is_wished wish kind then None else Some (findings.Entry r.level wish kind)

-- the first entry that is not what it must be
abbrev pub entry_finding : Cfg → Want → List Reading → Option Finding
entry_finding cfg want [] = None
entry_finding cfg want (r ∷ rs) =
    option_or (entry_at cfg (wish_at want (is_last rs)) r) (entry_finding cfg want rs)

-- a moment of a processor, with the PCID that it has there
abbrev pub tagged : Head → List Event → ℕ → ℕ → Tagged
tagged head events p w =
    record { moment = w; pcid = (control_at head events p w).pcid }

abbrev pub context_at : Tagged → Tagged → Option Finding
context_at first other =
    if other.pcid == first.pcid then None else Some (findings.Context first other)

-- the first moment at which a processor has another PCID than at the first of all
abbrev pub context_finding : Head → List Event → ℕ → Tagged → List ℕ → Option Finding
context_finding head events p first [] = None
context_finding head events p first (w ∷ ws) =
    option_or (context_at first (tagged head events p w))
    (context_finding head events p first ws)

abbrev pub structure_drop : Level → Option ℕ → Option Finding
structure_drop level None = None
structure_drop level (Some at) = Some (findings.StructureDropped level at)

-- the first event by which the structure entry of a reading had to go before the next one
abbrev pub structure_at : Head → List Event → ℕ → ℕ → ℕ → Reading → List Reading → Option Finding
structure_at head events p pcid la r [] = None
structure_at head events p pcid la r (s ∷ rs) =
    structure_drop r.level (first_drop head events p
    (caches.Structure (structure_key pcid r.level la)) r.moment s.moment)

-- that of the first reading whose structure entry had to go
abbrev pub structure_finding : Head → List Event → ℕ → ℕ → ℕ → List Reading → Option Finding
structure_finding head events p pcid la [] = None
structure_finding head events p pcid la (r ∷ rs) =
    option_or (structure_at head events p pcid la r rs)
    (structure_finding head events p pcid la rs)

-- what is found for the reasons of a walk by moments
abbrev pub walk_finding :
    Head → List Event → Asked → Tagged → List ℕ → List Reading → Option Finding
walk_finding head events a first ws rs =
    option_or (order_finding a.number Four ws)
    (option_or (entry_finding head.cfg a.want rs)
    (option_or (context_finding head events a.p first ws)
    (structure_finding head events a.p first.pcid a.la rs)))

-- ---- the end of an access

-- the prevention without which rights would allow an access that they deny (Intel SDM, vol. 3,
-- 4.6): of data SMAP, which EFLAGS.AC lifts; of a supervisor's fetch SMEP, unless XD denies it too
abbrev pub prevention_of : Cfg → Rights → AccessKind → Op → Option Prevention
prevention_of cfg rights access ops.Read =
    if is_allowed cfg rights (record access { ac = true }) then Some Smap else None
prevention_of cfg rights access ops.Write =
    if is_allowed cfg rights (record access { ac = true }) then Some Smap else None
prevention_of cfg rights access ops.Fetch =
    if access.user || rights.xd then None else Some Smep

abbrev pub leaf_finding : Cfg → AccessKind → Rights → ℕ → Outcome → Option Finding
leaf_finding cfg access rights address (Page page) =
    if not (is_allowed cfg rights access)
    then Some (findings.Rights rights access false (prevention_of cfg rights access access.op)) else
    if page == address then None else Some (findings.Answer address)
leaf_finding cfg access rights address (Fault code) =
    if is_allowed cfg rights access then Some (findings.Rights rights access true None) else
    let expected = fault_code cfg access causes.Denied in
    if code == expected then None else Some (findings.Code expected)

-- what a word of a level that was read at a moment holds at the event
abbrev pub held_finding : Cfg → Reading → ℕ → Finding
held_finding cfg r value =
    findings.NotAtEvent r.moment r.address value (kind_of cfg r.level value)

-- what is found for the reasons of a fault that an absent or reserved entry gives
abbrev pub fault_finding :
    Head → List Event → Claim → Cause → Kind → Reading → Outcome → Option Finding
fault_finding head events c cause kind r (Page page) =
    Some (findings.Entry r.level (wishes.Last wants.Leaf) kind)
fault_finding head events c cause kind r (Fault code) =
    if not (r.moment == c.number)
    then Some (held_finding head.cfg r (mem_at events c.number r.address)) else
    let expected = fault_code head.cfg c.kind cause in
    if code == expected then None else Some (findings.Code expected)

abbrev pub translation_drop : Level → Option ℕ → Option Finding
translation_drop level None = None
translation_drop level (Some at) = Some (findings.TranslationDropped level at)

-- the PCIDs at the reading and at the event, where they differ and the translation is not global
abbrev pub foreign_finding : Tagged → Tagged → Bool → Option Finding
foreign_finding read current global =
    if not (current.pcid == read.pcid) && not global
    then Some (findings.ForeignPcid read current) else None

-- what is found for the reasons from the translation on, by what was read last under a PCID
abbrev pub end_finding : Head → List Event → Claim → ℕ → Reading → Kind → Option Finding
end_finding head events c pcid r (kinds.Leaf frame shift global_bit) =
    let global = global_bit && (control_at head events c.p r.moment).pge in
    let key = caches.Translation (translation_key pcid shift global c.la) in
    option_or
    (translation_drop r.level (first_drop head events c.p key r.moment c.number))
    (option_or (foreign_finding (record { moment = r.moment; pcid = pcid })
    (tagged head events c.p c.number) global)
    (leaf_finding head.cfg c.kind r.rights (frame + c.la % 2 ^ shift) c.outcome))
end_finding head events c pcid r kinds.Absent =
    fault_finding head events c causes.Absent kinds.Absent r c.outcome
end_finding head events c pcid r kinds.Reserved =
    fault_finding head events c causes.Reserved kinds.Reserved r c.outcome
end_finding head events c pcid r (kinds.Table addr) =
    Some (findings.Entry r.level (wishes.Last (want_of c.outcome)) (kinds.Table addr))

-- ---- accessed and dirty flags

-- an entry without A; the last one may be one that is only looked at
abbrev pub accessed_at : Bool → Bool → Reading → Option Finding
accessed_at uses last r =
    if (last && not uses) || accessed r.value then None else
    Some (findings.Accessed r.level r.address r.value)

-- the first entry that is used without A, where the last one is used or not
abbrev pub accessed_finding : Bool → List Reading → Option Finding
accessed_finding uses [] = None
accessed_finding uses (r ∷ rs) =
    option_or (accessed_at uses (is_last rs) r) (accessed_finding uses rs)

abbrev pub dirty_finding : Claim → Reading → Option Finding
dirty_finding c r =
    if is_done_write c.kind c.outcome && not (dirty r.value)
    then Some (findings.Dirty r.address r.value) else None

-- what is found for the reasons by the flags of what an access reads
abbrev pub flag_finding : Version → Claim → List Reading → Reading → Option Finding
flag_finding version c rs end =
    if judges_accessed version
    then option_or (accessed_finding (uses_last (want_of c.outcome)) rs) (dirty_finding c end)
    else None

-- why the flag D may not be set in an entry of this kind
abbrev pub misfit_of : Cfg → AccessKind → Rights → Kind → Option Finding
misfit_of cfg access rights (kinds.Leaf frame shift global_bit) =
    if is_allowed cfg rights access then None else Some (findings.Assist (misfits.Rights rights))
misfit_of cfg access rights (kinds.Table addr) =
    Some (findings.Assist (misfits.Kind (kinds.Table addr)))
misfit_of cfg access rights kinds.Absent = Some (findings.Assist (misfits.Kind kinds.Absent))
misfit_of cfg access rights kinds.Reserved = Some (findings.Assist (misfits.Kind kinds.Reserved))

-- what of an assist does not fit the entry that is read last
abbrev pub update_finding : Cfg → Update → Reading → Option Finding
update_finding cfg u r =
    if not (r.moment == u.number) then Some (findings.Assist (misfits.Moment r.moment)) else
    if not (u.word == r.address) then Some (findings.Assist (misfits.Word r.address)) else
    if u.dirty then misfit_of cfg u.kind r.rights (kind_of cfg r.level r.value) else None

-- ---- events

abbrev pub no_reading : Reading
no_reading = record { level = Four; address = 0; value = 0; moment = 0; rights = all_rights }

-- what is read last
abbrev pub last_of : List Reading → Reading
last_of [] = no_reading
last_of (r ∷ rs) = last_or r rs

-- what the moments of an event read for an address
abbrev pub readings_by : Head → List Event → ℕ → ℕ → List ℕ → List Reading
readings_by head events p la [] = []
readings_by head events p la (w ∷ ws) =
    walked head events la (control_at head events p w) (w ∷ ws)

-- the first moment of a processor, with its PCID
abbrev pub first_tag : Head → List Event → ℕ → List ℕ → Tagged
first_tag head events p [] = tagged head events p 0
first_tag head events p (w ∷ ws) = tagged head events p w

abbrev pub asked_by : Claim → Asked
asked_by c = record { number = c.number; p = c.p; la = c.la; want = want_of c.outcome }

abbrev pub claim_finding :
    Head → List Event → Claim → Tagged → List ℕ → List Reading → Option Finding
claim_finding head events c first ws rs =
    let end = last_of rs in
    option_or (walk_finding head events (asked_by c) first ws rs)
    (option_or
    (end_finding head events c first.pcid end (kind_of head.cfg end.level end.value))
    (flag_finding head.version c rs end))

-- of an event without moments, which no record has: they are not in order, by level 4
abbrev pub no_moments : ℕ → Finding
no_moments number = findings.Order Four 0 (limits.Event number)

abbrev pub access_finding : Head → List Event → Claim → List ℕ → Option Finding
access_finding head events c [] = Some (no_moments c.number)
access_finding head events c (w ∷ ws) =
    claim_finding head events c (tagged head events c.p w) (w ∷ ws)
    (readings_by head events c.p c.la (w ∷ ws))

abbrev pub asked_of : Update → Asked
asked_of u = record { number = u.number; p = u.p; la = u.la; want = wants.Present }

abbrev pub mark_finding :
    Head → List Event → Update → Tagged → List ℕ → List Reading → Option Finding
mark_finding head events u first ws rs =
    option_or (walk_finding head events (asked_of u) first ws rs)
    (option_or (accessed_finding false rs) (update_finding head.cfg u (last_of rs)))

abbrev pub assist_finding : Head → List Event → Update → List ℕ → Option Finding
assist_finding head events u [] = Some (no_moments u.number)
assist_finding head events u (w ∷ ws) =
    mark_finding head events u (tagged head events u.p w) (w ∷ ws)
    (readings_by head events u.p u.la (w ∷ ws))

-- what is found for the least reason that fails for an event with this number
abbrev pub event_finding : Head → List Event → ℕ → Event → Option Finding
event_finding head events i (Write p addr value) = None
event_finding head events i (Access p flags la outcome moments) =
    access_finding head events (claim_of i p flags la outcome) moments
event_finding head events i (Assist p flags la word moments) =
    assist_finding head events (update_of i p flags la word) moments
event_finding head events i (MovCr3 p operand) = None
event_finding head events i (Invlpg p la) = None
event_finding head events i (Invpcid p kind pcid la) = None
event_finding head events i (MovCr4Pge p on) = None

-- what is found for the event of a run with this number
abbrev pub finding : Head → List Event → ℕ → Option Finding
finding head events i = option_and_then (event_finding head events i) (slice_get events i)
