-- A finding is of the least reason that fails.
use Rattle.std.proofs.Common.{◌≡◌, ℕ, zero, suc, ◌+◌, ◌-◌, ◌≤◌, ◌%◌, ◌^◌, Bool, true, false, not, ◌&&◌, ◌||◌, ◌==◌, nat_le, cond, List, [], ◌∷◌, length, map, get_or, Option, Some, None, refl, sym, ap, ◌∙◌, arith}
use Rattle.std.specs.Prelude.{slice_get, option_and_then, option_map}
use Rattle.std.specs.Option.{option_or, is_some}
use Rattle.pg_entry.specs.declared.AccessKind.{AccessKind}
use Rattle.pg_entry.specs.declared.Cause.{Cause}
use Rattle.pg_entry.specs.declared.Cause.TheVariants as causes
use Rattle.pg_entry.specs.declared.Cfg.{Cfg}
use Rattle.pg_entry.specs.declared.Kind.{Kind}
use Rattle.pg_entry.specs.declared.Kind.TheVariants as kinds
use Rattle.pg_entry.specs.declared.Level.{Level}
use Rattle.pg_entry.specs.declared.Level.TheVariants.{Four}
use Rattle.pg_entry.specs.declared.Rights.{Rights}
use Rattle.pg_entry.specs.Kinds.{accessed, dirty, kind_of}
use Rattle.pg_entry.specs.Permission.{is_allowed, fault_code}
use Rattle.pg_event.specs.declared.claim.Claim.{Claim}
use Rattle.pg_event.specs.declared.claim.Update.{Update}
use Rattle.pg_event.specs.declared.control.Control.{Control}
use Rattle.pg_event.specs.declared.event.Event.{Event}
use Rattle.pg_event.specs.declared.event.Event.TheVariants.{Write, Access, Assist, MovCr3, Invlpg, Invpcid, MovCr4Pge}
use Rattle.pg_event.specs.declared.event.Outcome.{Outcome}
use Rattle.pg_event.specs.declared.event.Outcome.TheVariants.{Page, Fault}
use Rattle.pg_event.specs.declared.event.Reason.{Reason}
use Rattle.pg_event.specs.declared.event.Reason.TheVariants as reasons
use Rattle.pg_event.specs.declared.event.Want.{Want}
use Rattle.pg_event.specs.declared.version.Version.{Version}
use Rattle.pg_event.specs.Heads.{Head, judges_accessed}
use Rattle.pg_event.specs.Invalidation.{structure_key, translation_key}
use Rattle.pg_event.specs.Values.{mem_at, control_at}
use Rattle.pg_event.specs.Walk.{Reading, readings, below, root_of}
use Rattle.pg_event.specs.Wants.{want_of, is_wanted, is_table, uses_last, may_dirty}
use Rattle.pg_event.specs.Witness.{any_from, takes_out, survives, is_in_order, leads_to, is_one_context, structures_survive, tables_accessed, last_or, is_done_write, failing_walk, failing_leaf, failing_fault, failing_end, failing_flags, failing_claim, failing_update, is_updated, failing_access, failing_assist, failing_event, claim_of, update_of}
use Rattle.pg_event.specs.Witness as witness
use Rattle.pg_chain.specs.declared.steps.EntryRead.{EntryRead}
use Rattle.pg_chain.specs.Walked.{entry_read, parent_of, reading_of}
use Rattle.pg_explain.specs.declared.dropped.CacheKey.{CacheKey}
use Rattle.pg_explain.specs.declared.dropped.CacheKey.TheVariants as caches
use Rattle.pg_explain.specs.declared.finding.Finding.{Finding}
use Rattle.pg_explain.specs.declared.finding.Finding.TheVariants as findings
use Rattle.pg_explain.specs.declared.finding.Misfit.TheVariants as misfits
use Rattle.pg_explain.specs.declared.finding.Tagged.{Tagged}
use Rattle.pg_explain.specs.declared.walk_finding.Asked.{Asked}
use Rattle.pg_explain.specs.Drops.{first_from, must_drop, is_dropped_at, first_drop}
use Rattle.pg_explain.specs.Findings.{reason_of, order_finding, entry_finding, tagged, context_finding, structure_drop, structure_finding, walk_finding, leaf_finding, fault_finding, translation_drop, end_finding, accessed_finding, flag_finding, misfit_of, update_finding, claim_finding, access_finding, mark_finding, assist_finding, event_finding, finding, asked_by, asked_of, first_tag, readings_by, last_of}
use Rattle.pg_explain.specs.Laws.{FindingsStandBehindReasons}

-- the reason of what was found, if anything was
abbrev pub reasons_of : Option Finding → Option Reason
reasons_of None = None
reasons_of (Some f) = Some (reason_of f)

or_reasons : (a b : Option Finding) → reasons_of (option_or a b) ≡ option_or (reasons_of a) (reasons_of b)
or_reasons None b = refl
or_reasons (Some f) b = refl

-- a test that must hold, and the tests after it
tested : (b : Bool) (f : Finding) (rest : Option Finding) → reasons_of (option_or (cond b None (Some f)) rest) ≡ cond b (reasons_of rest) (Some (reason_of f))
tested true f rest = refl
tested false f rest = refl

both_tested : (b c : Bool) (r : Reason) → cond b (cond (not c) (Some r) None) (Some r) ≡ cond (not (b && c)) (Some r) None
both_tested true c r = refl
both_tested false c r = refl

-- one test, whose rest is known
then_tested : (b c : Bool) (f : Finding) (rest : Option Finding) → reasons_of rest ≡ cond (not c) (Some (reason_of f)) None →
    reasons_of (option_or (cond b None (Some f)) rest) ≡ cond (not (b && c)) (Some (reason_of f)) None
then_tested b c f rest e = tested b f rest ∙ (ap (λ o. cond b o (Some (reason_of f))) e ∙ both_tested b c (reason_of f))

last_tested : (b : Bool) (f : Finding) → reasons_of (option_or (cond b None (Some f)) None) ≡ cond (not b) (Some (reason_of f)) None
last_tested true f = refl
last_tested false f = refl

-- ---- the walk

order_reasons : (n : ℕ) (level : Level) (w : ℕ) (ws : List ℕ) → reasons_of (order_finding n level (w ∷ ws)) ≡ cond (not (is_in_order (w ∷ ws) n)) (Some reasons.Order) None
order_reasons n level w [] = last_tested (nat_le w n) _
order_reasons n level w (x ∷ ws) = then_tested (nat_le w x) (is_in_order (x ∷ ws) n) _ (order_finding n (below level) (x ∷ ws)) (order_reasons n (below level) x ws)

entry_reasons : (cfg : Cfg) (want : Want) (r : Reading) (rs : List Reading) → reasons_of (entry_finding cfg want (r ∷ rs)) ≡ cond (not (leads_to cfg want (r ∷ rs))) (Some reasons.Entry) None
entry_reasons cfg want r [] = last_tested (is_wanted want (kind_of cfg r.level r.value)) _
entry_reasons cfg want r (s ∷ rs) = then_tested (is_table (kind_of cfg r.level r.value)) (leads_to cfg want (s ∷ rs)) _ (entry_finding cfg want (s ∷ rs)) (entry_reasons cfg want s rs)

context_reasons : (head : Head) (events : List Event) (p : ℕ) (first : Tagged) (ws : List ℕ) → reasons_of (context_finding head events p first ws) ≡ cond (not (is_one_context head events p first.pcid ws)) (Some reasons.Context) None
context_reasons head events p first [] = refl
context_reasons head events p first (w ∷ ws) =
    then_tested ((control_at head events p w).pcid == first.pcid) (is_one_context head events p first.pcid ws) _ (context_finding head events p first ws) (context_reasons head events p first ws)

-- there is a first number where there is any
first_some : (test : ℕ → Bool) (from n : ℕ) → is_some (first_from test from n) ≡ any_from test from n
first_some test from zero = refl
first_some test from (suc n) =
    elim (test from) as (λ b. is_some (cond b (Some from) (first_from test (from + 1) n)) ≡ (b || any_from test (from + 1) n)) [
      | true ↦ refl
      | false ↦ first_some test (from + 1) n
    ]

not_not : (b : Bool) → not (not b) ≡ b
not_not true = refl
not_not false = refl

-- an entry survives where no event drops it
pub survives_from : (head : Head) (events : List Event) (p : ℕ) (key : CacheKey) (from to : ℕ) → not (is_some (first_drop head events p key from to)) ≡ survives head events p (must_drop head.cfg.rules key) from to
survives_from head events p key from to = ap not (first_some (is_dropped_at head events p key) from (to - from))

structure_dropped : (level : Level) (o : Option ℕ) (c : Bool) (rest : Option Finding) → reasons_of rest ≡ cond (not c) (Some reasons.StructureDropped) None →
    reasons_of (option_or (structure_drop level o) rest) ≡ cond (not (not (is_some o) && c)) (Some reasons.StructureDropped) None
structure_dropped level None c rest e = e
structure_dropped level (Some at) c rest e = refl

structure_reasons : (head : Head) (events : List Event) (p pcid la : ℕ) (rs : List Reading) →
    reasons_of (structure_finding head events p pcid la rs) ≡ cond (not (structures_survive head events p pcid la rs)) (Some reasons.StructureDropped) None
structure_reasons head events p pcid la [] = refl
structure_reasons head events p pcid la (r ∷ []) = refl
structure_reasons head events p pcid la (r ∷ s ∷ rs) =
    let key : CacheKey = caches.Structure (structure_key pcid r.level la) in
    let rest : Bool = structures_survive head events p pcid la (s ∷ rs) in
    structure_dropped r.level (first_drop head events p key r.moment s.moment) rest (structure_finding head events p pcid la (s ∷ rs)) (structure_reasons head events p pcid la (s ∷ rs))
    ∙ ap (λ b. cond (not (b && rest)) (Some reasons.StructureDropped) None) (survives_from head events p key r.moment s.moment)

four_tests : (a b c d : Bool) →
    option_or (cond (not a) (Some reasons.Order) None) (option_or (cond (not b) (Some reasons.Entry) None) (option_or (cond (not c) (Some reasons.Context) None) (cond (not d) (Some reasons.StructureDropped) None)))
    ≡ cond (not a) (Some reasons.Order) (cond (not b) (Some reasons.Entry) (cond (not c) (Some reasons.Context) (cond (not d) (Some reasons.StructureDropped) None)))
four_tests false b c d = refl
four_tests true false c d = refl
four_tests true true false d = refl
four_tests true true true d = refl

-- what an event asks of a walk
abbrev pub witness_asked : Asked → witness.Asked
witness_asked a = record { number = a.number; p = a.p; la = a.la; want = a.want }

pub walk_reasons : (head : Head) (events : List Event) (a : Asked) (first : Tagged) (w : ℕ) (ws : List ℕ) (r : Reading) (rs : List Reading) →
    reasons_of (walk_finding head events a first (w ∷ ws) (r ∷ rs)) ≡ failing_walk head events (witness_asked a) first.pcid (w ∷ ws) (r ∷ rs)
walk_reasons head events a first w ws r rs =
    let order : Option Finding = order_finding a.number Four (w ∷ ws) in
    let entry : Option Finding = entry_finding head.cfg a.want (r ∷ rs) in
    let context : Option Finding = context_finding head events a.p first (w ∷ ws) in
    let structure : Option Finding = structure_finding head events a.p first.pcid a.la (r ∷ rs) in
    or_reasons order (option_or entry (option_or context structure))
    ∙ (ap (option_or (reasons_of order)) (or_reasons entry (option_or context structure) ∙ ap (option_or (reasons_of entry)) (or_reasons context structure))
    ∙ (ap (λ o. option_or o (option_or (reasons_of entry) (option_or (reasons_of context) (reasons_of structure)))) (order_reasons a.number Four w ws)
    ∙ (ap (λ o. option_or (cond (not (is_in_order (w ∷ ws) a.number)) (Some reasons.Order) None) (option_or o (option_or (reasons_of context) (reasons_of structure)))) (entry_reasons head.cfg a.want r rs)
    ∙ (ap (λ o. option_or (cond (not (is_in_order (w ∷ ws) a.number)) (Some reasons.Order) None) (option_or (cond (not (leads_to head.cfg a.want (r ∷ rs))) (Some reasons.Entry) None) (option_or o (reasons_of structure)))) (context_reasons head events a.p first (w ∷ ws))
    ∙ (ap (λ o. option_or (cond (not (is_in_order (w ∷ ws) a.number)) (Some reasons.Order) None) (option_or (cond (not (leads_to head.cfg a.want (r ∷ rs))) (Some reasons.Entry) None) (option_or (cond (not (is_one_context head events a.p first.pcid (w ∷ ws))) (Some reasons.Context) None) o))) (structure_reasons head events a.p first.pcid a.la (r ∷ rs))
    ∙ four_tests (is_in_order (w ∷ ws) a.number) (leads_to head.cfg a.want (r ∷ rs)) (is_one_context head events a.p first.pcid (w ∷ ws)) (structures_survive head events a.p first.pcid a.la (r ∷ rs)))))))

-- ---- the end of an access

denied_or : (b q : Bool) (f g : Finding) → reasons_of (cond (not b) (Some f) (cond q None (Some g))) ≡ cond (not b) (Some (reason_of f)) (cond q None (Some (reason_of g)))
denied_or false q f g = refl
denied_or true true f g = refl
denied_or true false f g = refl

allowed_or : (b q : Bool) (f g : Finding) → reasons_of (cond b (Some f) (cond q None (Some g))) ≡ cond b (Some (reason_of f)) (cond q None (Some (reason_of g)))
allowed_or true q f g = refl
allowed_or false true f g = refl
allowed_or false false f g = refl

leaf_reasons : (cfg : Cfg) (access : AccessKind) (rights : Rights) (address : ℕ) (outcome : Outcome) →
    reasons_of (leaf_finding cfg access rights address outcome) ≡ failing_leaf cfg access rights address outcome
leaf_reasons cfg access rights address (Page page) = denied_or (is_allowed cfg rights access) (page == address) _ _
leaf_reasons cfg access rights address (Fault code) = allowed_or (is_allowed cfg rights access) (code == fault_code cfg access causes.Denied) _ _

fault_reasons : (head : Head) (events : List Event) (c : Claim) (cause : Cause) (kind : Kind) (r : Reading) (outcome : Outcome) →
    reasons_of (fault_finding head events c cause kind r outcome) ≡ failing_fault head.cfg c cause r.moment outcome
fault_reasons head events c cause kind r (Page page) = refl
fault_reasons head events c cause kind r (Fault code) = denied_or (r.moment == c.number) (code == fault_code head.cfg c.kind cause) _ _

-- what is found of a translation that was dropped or is foreign, and what comes after
page_tests : (level : Level) (o : Option ℕ) (f : Bool) (foreign : Finding) (rest : Option Finding) → reason_of foreign ≡ reasons.ForeignPcid →
    reasons_of (option_or (translation_drop level o) (option_or (cond f (Some foreign) None) rest))
    ≡ cond (not (not (is_some o))) (Some reasons.TranslationDropped) (cond f (Some reasons.ForeignPcid) (reasons_of rest))
page_tests level (Some at) f foreign rest e = refl
page_tests level None true foreign rest e = ap (λ r. Some r) e
page_tests level None false foreign rest e = refl

pub end_reasons : (head : Head) (events : List Event) (c : Claim) (pcid : ℕ) (r : Reading) (kind : Kind) →
    reasons_of (end_finding head events c pcid r kind) ≡ failing_end head events c pcid r kind
end_reasons head events c pcid r (kinds.Leaf frame shift global_bit) =
    let global : Bool = global_bit && (control_at head events c.p r.moment).pge in
    let key : CacheKey = caches.Translation (translation_key pcid shift global c.la) in
    let foreign : Bool = not ((control_at head events c.p c.number).pcid == pcid) && not global in
    let rest : Option Finding = leaf_finding head.cfg c.kind r.rights (frame + c.la % 2 ^ shift) c.outcome in
    page_tests r.level (first_drop head events c.p key r.moment c.number) foreign (findings.ForeignPcid (record { moment = r.moment; pcid = pcid }) (tagged head events c.p c.number)) rest refl
    ∙ (ap (λ b. cond (not b) (Some reasons.TranslationDropped) (cond foreign (Some reasons.ForeignPcid) (reasons_of rest))) (survives_from head events c.p key r.moment c.number)
    ∙ ap (λ o. cond (not (survives head events c.p (must_drop head.cfg.rules key) r.moment c.number)) (Some reasons.TranslationDropped) (cond foreign (Some reasons.ForeignPcid) o)) (leaf_reasons head.cfg c.kind r.rights (frame + c.la % 2 ^ shift) c.outcome))
end_reasons head events c pcid r kinds.Absent = fault_reasons head events c causes.Absent kinds.Absent r c.outcome
end_reasons head events c pcid r kinds.Reserved = fault_reasons head events c causes.Reserved kinds.Reserved r c.outcome
end_reasons head events c pcid r (kinds.Table addr) = refl

-- ---- accessed and dirty flags

and_both : (a b c : Bool) → (a && (b && c)) ≡ ((a && b) && c)
and_both true b c = refl
and_both false b c = refl

pub accessed_reasons : (uses : Bool) (r : Reading) (rs : List Reading) →
    reasons_of (accessed_finding uses (r ∷ rs)) ≡ cond (not (tables_accessed (r ∷ rs) && (not uses || accessed (last_or r rs).value))) (Some reasons.Accessed) None
accessed_reasons uses r [] = last_tested (not uses || accessed r.value) _
accessed_reasons uses r (s ∷ rs) =
    let rest : Bool = tables_accessed (s ∷ rs) in
    let last : Bool = not uses || accessed (last_or s rs).value in
    then_tested (accessed r.value) (rest && last) _ (accessed_finding uses (s ∷ rs)) (accessed_reasons uses s rs)
    ∙ ap (λ b. cond (not b) (Some reasons.Accessed) None) (and_both (accessed r.value) rest last)

flag_tests : (judged used done : Bool) (a : Option Finding) (f : Finding) → reasons_of a ≡ cond (not used) (Some reasons.Accessed) None → reason_of f ≡ reasons.Dirty →
    reasons_of (cond judged (option_or a (cond done (Some f) None)) None)
    ≡ cond (not judged) None (cond (not used) (Some reasons.Accessed) (cond done (Some reasons.Dirty) None))
flag_tests false used done a f e is = refl
flag_tests true used done a f e is =
    or_reasons a (cond done (Some f) None) ∙ (ap (λ o. option_or o (reasons_of (cond done (Some f) None))) e ∙ after used done)
  where
    after : (used done : Bool) → option_or (cond (not used) (Some reasons.Accessed) None) (reasons_of (cond done (Some f) None)) ≡ cond (not used) (Some reasons.Accessed) (cond done (Some reasons.Dirty) None)
    after false done = refl
    after true false = refl
    after true true = ap (λ r. Some r) is

pub flag_reasons : (version : Version) (c : Claim) (r : Reading) (rs : List Reading) →
    reasons_of (flag_finding version c (r ∷ rs) (last_or r rs)) ≡ failing_flags version c (tables_accessed (r ∷ rs)) (last_or r rs).value
flag_reasons version c r rs =
    let uses : Bool = uses_last (want_of c.outcome) in
    let end : Reading = last_or r rs in
    flag_tests (judges_accessed version) (tables_accessed (r ∷ rs) && (not uses || accessed end.value)) (is_done_write c.kind c.outcome && not (dirty end.value)) (accessed_finding uses (r ∷ rs)) (findings.Dirty end.address end.value) (accessed_reasons uses r rs) refl

misfit_reasons : (cfg : Cfg) (access : AccessKind) (rights : Rights) (kind : Kind) → reasons_of (misfit_of cfg access rights kind) ≡ cond (may_dirty cfg access rights kind) None (Some reasons.Assist)
misfit_reasons cfg access rights (kinds.Leaf frame shift global_bit) = allowed (is_allowed cfg rights access)
  where
    allowed : (b : Bool) → reasons_of (cond b None (Some (findings.Assist (misfits.Rights rights)))) ≡ cond b None (Some reasons.Assist)
    allowed true = refl
    allowed false = refl
misfit_reasons cfg access rights (kinds.Table addr) = refl
misfit_reasons cfg access rights kinds.Absent = refl
misfit_reasons cfg access rights kinds.Reserved = refl

update_tests : (a b d m : Bool) (f g : Finding) (rest : Option Finding) → reason_of f ≡ reasons.Assist → reason_of g ≡ reasons.Assist → reasons_of rest ≡ cond m None (Some reasons.Assist) →
    reasons_of (cond (not a) (Some f) (cond (not b) (Some g) (cond d rest None))) ≡ cond (a && b && (not d || m)) None (Some reasons.Assist)
update_tests false b d m f g rest e h k = ap (λ r. Some r) e
update_tests true false d m f g rest e h k = ap (λ r. Some r) h
update_tests true true false m f g rest e h k = refl
update_tests true true true m f g rest e h k = k

pub update_reasons : (cfg : Cfg) (u : Update) (r : Reading) → reasons_of (update_finding cfg u r) ≡ cond (is_updated cfg u r) None (Some reasons.Assist)
update_reasons cfg u r =
    let kind : Kind = kind_of cfg r.level r.value in
    update_tests (r.moment == u.number) (u.word == r.address) u.dirty (may_dirty cfg u.kind r.rights kind) (findings.Assist (misfits.Moment r.moment)) (findings.Assist (misfits.Word r.address)) (misfit_of cfg u.kind r.rights kind) refl refl (misfit_reasons cfg u.kind r.rights kind)

-- ---- events

-- the walk by these moments
abbrev first_read : List Event → ℕ → Control → ℕ → Reading
first_read events la start w = entry_read (mem_at events) la Four (root_of start) w

abbrev others_read : ℕ → List Event → ℕ → Control → ℕ → List ℕ → List Reading
others_read m events la start w ws =
    let up = parent_of m (first_read events la start w) in
    readings m (mem_at events) la (below Four) up.table up.rights ws

claim_reasons : (head : Head) (events : List Event) (c : Claim) (first : Tagged) (w : ℕ) (ws : List ℕ) (r : Reading) (rs : List Reading) →
    reasons_of (claim_finding head events c first (w ∷ ws) (r ∷ rs)) ≡ failing_claim head events c first.pcid (w ∷ ws) (r ∷ rs)
claim_reasons head events c first w ws r rs =
    let end : Reading = last_or r rs in
    let kind : Kind = kind_of head.cfg end.level end.value in
    let walk : Option Finding = walk_finding head events (asked_by c) first (w ∷ ws) (r ∷ rs) in
    let last : Option Finding = end_finding head events c first.pcid end kind in
    let flags : Option Finding = flag_finding head.version c (r ∷ rs) end in
    or_reasons walk (option_or last flags)
    ∙ (ap (option_or (reasons_of walk)) (or_reasons last flags)
    ∙ (ap (λ o. option_or o (option_or (reasons_of last) (reasons_of flags))) (walk_reasons head events (asked_by c) first w ws r rs)
    ∙ (ap (λ o. option_or (failing_walk head events (witness.asked_by c) first.pcid (w ∷ ws) (r ∷ rs)) (option_or o (reasons_of flags))) (end_reasons head events c first.pcid end kind)
    ∙ ap (λ o. option_or (failing_walk head events (witness.asked_by c) first.pcid (w ∷ ws) (r ∷ rs)) (option_or (failing_end head events c first.pcid end kind) o)) (flag_reasons head.version c r rs))))

pub access_reasons : (head : Head) (events : List Event) (c : Claim) (ws : List ℕ) → reasons_of (access_finding head events c ws) ≡ failing_access head events c ws
access_reasons head events c [] = refl
access_reasons head events c (w ∷ ws) =
    let start : Control = control_at head events c.p w in
    claim_reasons head events c (tagged head events c.p w) w ws (first_read events c.la start w) (others_read head.cfg.m events c.la start w ws)

mark_tests : (a b : Bool) (f g : Option Finding) → reasons_of f ≡ cond (not (a && (true || b))) (Some reasons.Accessed) None → (u : Bool) → reasons_of g ≡ cond u None (Some reasons.Assist) →
    option_or (reasons_of f) (reasons_of g) ≡ cond (not a) (Some reasons.Accessed) (cond u None (Some reasons.Assist))
mark_tests a b f g e u h = ap (λ o. option_or o (reasons_of g)) e ∙ (ap (option_or (cond (not (a && true)) (Some reasons.Accessed) None)) h ∙ after a)
  where
    after : (a : Bool) → option_or (cond (not (a && true)) (Some reasons.Accessed) None) (cond u None (Some reasons.Assist)) ≡ cond (not a) (Some reasons.Accessed) (cond u None (Some reasons.Assist))
    after true = refl
    after false = refl

mark_reasons : (head : Head) (events : List Event) (u : Update) (first : Tagged) (w : ℕ) (ws : List ℕ) (r : Reading) (rs : List Reading) →
    reasons_of (mark_finding head events u first (w ∷ ws) (r ∷ rs)) ≡ failing_update head events u first.pcid (w ∷ ws) (r ∷ rs)
mark_reasons head events u first w ws r rs =
    let end : Reading = last_or r rs in
    let walk : Option Finding = walk_finding head events (asked_of u) first (w ∷ ws) (r ∷ rs) in
    let flags : Option Finding = accessed_finding false (r ∷ rs) in
    let last : Option Finding = update_finding head.cfg u end in
    or_reasons walk (option_or flags last)
    ∙ (ap (option_or (reasons_of walk)) (or_reasons flags last ∙ mark_tests (tables_accessed (r ∷ rs)) (accessed end.value) flags last (accessed_reasons false r rs) (is_updated head.cfg u end) (update_reasons head.cfg u end))
    ∙ ap (λ o. option_or o (cond (not (tables_accessed (r ∷ rs))) (Some reasons.Accessed) (cond (is_updated head.cfg u end) None (Some reasons.Assist)))) (walk_reasons head events (asked_of u) first w ws r rs))

pub assist_reasons : (head : Head) (events : List Event) (u : Update) (ws : List ℕ) → reasons_of (assist_finding head events u ws) ≡ failing_assist head events u ws
assist_reasons head events u [] = refl
assist_reasons head events u (w ∷ ws) =
    let start : Control = control_at head events u.p w in
    mark_reasons head events u (tagged head events u.p w) w ws (first_read events u.la start w) (others_read head.cfg.m events u.la start w ws)

event_reasons : (head : Head) (events : List Event) (i : ℕ) (e : Event) → reasons_of (event_finding head events i e) ≡ failing_event head events i e
event_reasons head events i (Write p addr value) = refl
event_reasons head events i (Access p flags la outcome moments) = access_reasons head events (claim_of i p flags la outcome) moments
event_reasons head events i (Assist p flags la word moments) = assist_reasons head events (update_of i p flags la word) moments
event_reasons head events i (MovCr3 p operand) = refl
event_reasons head events i (Invlpg p la) = refl
event_reasons head events i (Invpcid p kind pcid la) = refl
event_reasons head events i (MovCr4Pge p on) = refl

-- ---- what was found is of the reason

pub findings_stand_behind_reasons : FindingsStandBehindReasons
findings_stand_behind_reasons head events i = mapped (finding head events i) ∙ of_event (slice_get events i)
  where
    mapped : (o : Option Finding) → option_map reason_of o ≡ reasons_of o
    mapped None = refl
    mapped (Some f) = refl

    of_event : (o : Option Event) → reasons_of (option_and_then (event_finding head events i) o) ≡ option_and_then (failing_event head events i) o
    of_event None = refl
    of_event (Some e) = event_reasons head events i e

pub told_none : (o f : Option Finding) (r : Option Reason) → o ≡ f → reasons_of f ≡ r → o ≡ None → r ≡ None
told_none o f r e h none = sym h ∙ (ap reasons_of (sym e) ∙ ap reasons_of none)

pub told_some : (o f : Option Finding) (r : Option Reason) (x : Finding) → o ≡ f → reasons_of f ≡ r → o ≡ Some x → r ≡ Some (reason_of x)
told_some o f r x e h some = sym h ∙ (ap reasons_of (sym e) ∙ ap reasons_of some)

pub access_found : (head : Head) (events : List Event) (c : Claim) (ws : List ℕ) (first : Tagged) (rs : List Reading) (o : Option Finding) → 1 ≤ length ws →
    first ≡ first_tag head events c.p ws → rs ≡ readings_by head events c.p c.la ws → o ≡ claim_finding head events c first ws rs → o ≡ access_finding head events c ws
access_found head events c [] first rs o some e read h = absurd (omega (arith, some))
access_found head events c (w ∷ ws) first rs o some e read h =
    h ∙ (ap (λ (t : Tagged). claim_finding head events c t (w ∷ ws) rs) e ∙ ap (claim_finding head events c (tagged head events c.p w) (w ∷ ws)) read)

pub assist_found : (head : Head) (events : List Event) (u : Update) (ws : List ℕ) (first : Tagged) (rs : List Reading) (o : Option Finding) → 1 ≤ length ws →
    first ≡ first_tag head events u.p ws → rs ≡ readings_by head events u.p u.la ws → o ≡ mark_finding head events u first ws rs → o ≡ assist_finding head events u ws
assist_found head events u [] first rs o some e read h = absurd (omega (arith, some))
assist_found head events u (w ∷ ws) first rs o some e read h =
    h ∙ (ap (λ (t : Tagged). mark_finding head events u t (w ∷ ws) rs) e ∙ ap (mark_finding head events u (tagged head events u.p w) (w ∷ ws)) read)

-- ---- the step that is read last

last_at : (a d : EntryRead) (xs : List EntryRead) → reading_of (get_or (a ∷ xs) (length xs) d) ≡ last_or (reading_of a) (map reading_of xs)
last_at a d [] = refl
last_at a d (b ∷ xs) = last_at b d xs

pub last_read : (xs : List EntryRead) (d : EntryRead) → 1 ≤ length xs → reading_of (get_or xs (length xs - 1) d) ≡ last_of (map reading_of xs)
last_read [] d some = absurd (omega arith)
last_read (a ∷ xs) d some =
    let same : suc (length xs) - 1 ≡ length xs = omega arith in
    ap (λ k. reading_of (get_or (a ∷ xs) k d)) same ∙ last_at a d xs
