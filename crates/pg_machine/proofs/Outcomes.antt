-- The stepper's tests of an access and of an assist decide whether it may come.
use Rattle.std.proofs.Common.{◌≡◌, ℕ, ◌+◌, ◌%◌, ◌^◌, Bool, true, refl, ap, subst, ◌∙◌, sym, ⊎_elim}
use Rattle.std.proofs.lemmas.Bool.{or_cases, or_left, or_right, and_parts, and_from, eqb-true, eq-eqb, not-true, not_from_false}
use Rattle.pg_entry.specs.declared.Cfg.{Cfg}
use Rattle.pg_entry.specs.declared.AccessKind.{AccessKind}
use Rattle.pg_entry.specs.declared.Level.{Level}
use Rattle.pg_entry.specs.declared.Level.TheVariants.{Four, Three, Two, One}
use Rattle.pg_entry.specs.declared.Kind.{Kind}
use Rattle.pg_entry.specs.declared.Kind.TheVariants as kinds
use Rattle.pg_entry.specs.declared.Cause.{Cause}
use Rattle.pg_entry.specs.declared.Cause.TheVariants as causes
use Rattle.pg_entry.specs.Permission.{is_allowed, fault_code}
use Rattle.pg_event.specs.declared.control.Control.{Control}
use Rattle.pg_event.specs.declared.event.Outcome.{Outcome}
use Rattle.pg_event.specs.declared.event.Outcome.TheVariants.{Page, Fault}
use Rattle.pg_event.specs.declared.event.Want.{Want}
use Rattle.pg_event.specs.declared.event.Want.TheVariants as wants
use Rattle.pg_event.specs.declared.walk.Parent.{Parent}
use Rattle.pg_event.specs.Heads.{Head}
use Rattle.pg_event.specs.Invalidation.{level_shift, bits_from, structure_matches}
use Rattle.pg_event.specs.Walk.{below, entry_address, root_of}
use Rattle.pg_event.specs.Wants.{is_wanted}
use Rattle.pg_machine.specs.declared.sought.Sought.{Sought}
use Rattle.pg_machine.specs.declared.sought.Sought.TheVariants as soughts
use Rattle.pg_machine.specs.declared.step.Structure.{Structure}
use Rattle.pg_machine.specs.declared.step.Translation.{Translation}
use Rattle.pg_machine.specs.Listed.{Listed, processor_at, state_of}
use Rattle.pg_machine.specs.Machine.{IsIn, MayRead, MayAssist, structure_at, is_usable, may_serve, Answers, HasOutcome}
use Rattle.pg_machine.specs.Stepping.{is_sought, is_leading, leads_to_sought, finds, answers, gives, faults_by, has_outcome}
use Rattle.pg_machine.proofs.Members.{passes, any_passes}

-- a translation's answer
answers_says : (head : Head) (access : AccessKind) (la : ℕ) (t : Translation) (outcome : Outcome) → answers head access la outcome t ≡ true → Answers head access la t outcome
answers_says head access la t (Page page) h =
    let parts = and_parts _ _ h in
    let first = and_parts (is_allowed head.cfg t.rights access) (may_serve head.version access t) parts.0 in
    (first.0, first.1, eqb-true _ _ parts.1)
answers_says head access la t (Fault code) h = let parts = and_parts _ _ h in (not-true _ parts.0, eqb-true _ _ parts.1)

answers-from : (head : Head) (access : AccessKind) (la : ℕ) (t : Translation) (outcome : Outcome) → Answers head access la t outcome → answers head access la outcome t ≡ true
answers-from head access la t (Page page) h = and_from _ _ (and_from (is_allowed head.cfg t.rights access) (may_serve head.version access t) h.0 h.1) (eq-eqb page (t.frame + la % 2 ^ t.key.shift) h.2)
answers-from head access la t (Fault code) h = and_from _ _ (not_from_false _ h.0) (eq-eqb code (fault_code head.cfg access causes.Denied) h.1)

-- a translation that may be used and answers
pub gives_says : (head : Head) (c : Control) (la : ℕ) (access : AccessKind) (outcome : Outcome) (t : Translation) → gives head c la access outcome t ≡ true → (is_usable c la t ≡ true) × Answers head access la t outcome
gives_says head c la access outcome t h =
    let parts = and_parts (is_usable c la t) (answers head access la outcome t) h in
    (parts.0, answers_says head access la t outcome parts.1)

pub gives-from : (head : Head) (c : Control) (la : ℕ) (access : AccessKind) (outcome : Outcome) (t : Translation) → is_usable c la t ≡ true → Answers head access la t outcome → gives head c la access outcome t ≡ true
gives-from head c la access outcome t usable h = and_from (is_usable c la t) (answers head access la outcome t) usable (answers-from head access la t outcome h)

-- a word of the wanted kind
absent_is : (k : Kind) → is_wanted wants.Absent k ≡ true → k ≡ kinds.Absent
absent_is kinds.Absent h = refl
absent_is kinds.Reserved h = cc
absent_is (kinds.Table addr) h = cc
absent_is (kinds.Leaf frame shift global) h = cc

reserved_is : (k : Kind) → is_wanted wants.Reserved k ≡ true → k ≡ kinds.Reserved
reserved_is kinds.Absent h = cc
reserved_is kinds.Reserved h = refl
reserved_is (kinds.Table addr) h = cc
reserved_is (kinds.Leaf frame shift global) h = cc

-- some level may read an entry that is sought
abbrev ReadsSought : Listed → ℕ → ℕ → Sought → Type 0
ReadsSought l p la sought =
    (level : Level) × (from : Parent) × MayRead (state_of l) p la level from × (is_sought l.head.cfg l.writes la sought level from ≡ true)

-- an entry by its parts
made_of : ℕ → Level → ℕ → Parent → Structure
made_of pcid level prefix from = record { key = record { pcid = pcid; level = level; prefix = prefix }; table = from.table; rights = from.rights }

made_of-parts : (x : Structure) → made_of x.key.pcid x.key.level x.key.prefix (record { table = x.table; rights = x.rights }) ≡ x
unfolding made_of
made_of-parts x = refl

made_of-leading : (l : Listed) (p la : ℕ) (level : Level) (from : Parent) → made_of (processor_at l.processors p).control.pcid level (bits_from (level_shift level) la) from ≡ structure_at (state_of l) p la level from
unfolding made_of
made_of-leading l p la level from = refl

-- an entry that matches is the one that its level gives for the address
matching : (l : Listed) (p la : ℕ) (x : Structure) → x.key.pcid ≡ (processor_at l.processors p).control.pcid → structure_matches x.key la ≡ true → x ≡ structure_at (state_of l) p la x.key.level (record { table = x.table; rights = x.rights })
matching l p la x same h =
    let from : Parent = record { table = x.table; rights = x.rights } in
    let prefix : x.key.prefix ≡ bits_from (level_shift x.key.level) la = eqb-true _ _ h in
    sym (made_of-parts x)
    ∙ ap (λ n. made_of n x.key.level x.key.prefix from) same
    ∙ ap (λ n. made_of (processor_at l.processors p).control.pcid x.key.level n from) prefix
    ∙ made_of-leading l p la x.key.level from

leading_reads : (l : Listed) (p la : ℕ) (sought : Sought) (level : Level) (from : Parent) → is_leading level ≡ true → IsIn (structure_at (state_of l) p la level from) (processor_at l.processors p).structures → is_sought l.head.cfg l.writes la sought (below level) from ≡ true → ReadsSought l p la sought
leading_reads l p la sought Four from leading there h = (Three, from, there, h)
leading_reads l p la sought Three from leading there h = (Two, from, there, h)
leading_reads l p la sought Two from leading there h = (One, from, there, h)
leading_reads l p la sought One from leading there h = cc

leads : (l : Listed) (p la : ℕ) (sought : Sought) (x : Structure) → IsIn x (processor_at l.processors p).structures → leads_to_sought l.head.cfg l.writes la sought (processor_at l.processors p).control.pcid x ≡ true → ReadsSought l p la sought
leads l p la sought x there h =
    let wanted = and_parts _ _ h in
    let matches = and_parts _ _ wanted.0 in
    let same = and_parts _ _ matches.0 in
    let from : Parent = record { table = x.table; rights = x.rights } in
    let P : Structure → Type 0 = λ y. IsIn y (processor_at l.processors p).structures in
    leading_reads l p la sought x.key.level from same.0 (subst P (matching l p la x (eqb-true _ _ same.1) matches.1) there) wanted.1

found : (l : Listed) (p la : ℕ) (sought : Sought) → finds l.head.cfg l.writes (processor_at l.processors p) la sought ≡ true → ReadsSought l p la sought
found l p la sought h =
    let processor = processor_at l.processors p in
    ⊎_elim (λ root. (Four, root_of processor.control, refl, root))
    (λ below. let x = passes (leads_to_sought l.head.cfg l.writes la sought processor.control.pcid) processor.structures below in leads l p la sought x.0 x.1 x.2)
    (or_cases _ _ h)

-- the other way
leads-from : (l : Listed) (p la : ℕ) (sought : Sought) (level : Level) (from : Parent) → is_leading level ≡ true → is_sought l.head.cfg l.writes la sought (below level) from ≡ true → leads_to_sought l.head.cfg l.writes la sought (processor_at l.processors p).control.pcid (structure_at (state_of l) p la level from) ≡ true
leads-from l p la sought level from leading h =
    let pcid = (processor_at l.processors p).control.pcid in
    and_from _ _ (and_from _ _ (and_from _ _ leading (eq-eqb pcid pcid refl)) (eq-eqb (bits_from (level_shift level) la) (bits_from (level_shift level) la) refl)) h

found_by : (l : Listed) (p la : ℕ) (sought : Sought) (level : Level) (from : Parent) → is_leading level ≡ true → IsIn (structure_at (state_of l) p la level from) (processor_at l.processors p).structures → is_sought l.head.cfg l.writes la sought (below level) from ≡ true → finds l.head.cfg l.writes (processor_at l.processors p) la sought ≡ true
found_by l p la sought level from leading there h =
    or_right _ _ (any_passes (leads_to_sought l.head.cfg l.writes la sought (processor_at l.processors p).control.pcid) (structure_at (state_of l) p la level from) (processor_at l.processors p).structures there (leads-from l p la sought level from leading h))

found-from : (l : Listed) (p la : ℕ) (sought : Sought) (level : Level) (from : Parent) → MayRead (state_of l) p la level from → is_sought l.head.cfg l.writes la sought level from ≡ true → finds l.head.cfg l.writes (processor_at l.processors p) la sought ≡ true
found-from l p la sought Four from there h =
    or_left _ _ (ap (λ (f : Parent). is_sought l.head.cfg l.writes la sought Four f) (sym there) ∙ h)
found-from l p la sought Three from there h = found_by l p la sought Four from refl there h
found-from l p la sought Two from there h = found_by l p la sought Three from refl there h
found-from l p la sought One from there h = found_by l p la sought Two from refl there h

faults_says : (cfg : Cfg) (access : AccessKind) (cause : Cause) (outcome : Outcome) → faults_by cfg access cause outcome ≡ true → outcome ≡ Fault (fault_code cfg access cause)
faults_says cfg access cause (Page page) h = cc
faults_says cfg access cause (Fault code) h = ap Fault (eqb-true _ _ h)

faults-from : (cfg : Cfg) (access : AccessKind) (cause : Cause) (outcome : Outcome) → outcome ≡ Fault (fault_code cfg access cause) → faults_by cfg access cause outcome ≡ true
faults-from cfg access cause (Page page) h = cc
faults-from cfg access cause (Fault code) h = eq-eqb code (fault_code cfg access cause) cc

pub outcome_says : (l : Listed) (p la : ℕ) (access : AccessKind) (outcome : Outcome) (want : Want) → has_outcome l.head l.writes (processor_at l.processors p) access la outcome want ≡ true → HasOutcome l.head (state_of l) p la access outcome want
outcome_says l p la access outcome wants.Leaf h =
    let processor = processor_at l.processors p in
    let found = passes (λ t. gives l.head processor.control la access outcome t) processor.translations h in
    let parts = gives_says l.head processor.control la access outcome found.0 found.2 in
    (found.0, found.1, parts.0, parts.1)
outcome_says l p la access outcome wants.Absent h =
    let parts = and_parts _ _ h in
    let x = found l p la (soughts.Entry wants.Absent) parts.1 in
    (x.0, x.1, x.2, absent_is _ x.3, faults_says l.head.cfg access causes.Absent outcome parts.0)
outcome_says l p la access outcome wants.Reserved h =
    let parts = and_parts _ _ h in
    let x = found l p la (soughts.Entry wants.Reserved) parts.1 in
    (x.0, x.1, x.2, reserved_is _ x.3, faults_says l.head.cfg access causes.Reserved outcome parts.0)
outcome_says l p la access outcome wants.Present h = cc

pub outcome-from : (l : Listed) (p la : ℕ) (access : AccessKind) (outcome : Outcome) (want : Want) → HasOutcome l.head (state_of l) p la access outcome want → has_outcome l.head l.writes (processor_at l.processors p) access la outcome want ≡ true
outcome-from l p la access outcome wants.Leaf h =
    let processor = processor_at l.processors p in
    any_passes (λ t. gives l.head processor.control la access outcome t) h.0 processor.translations h.1
    (gives-from l.head processor.control la access outcome h.0 h.2 h.3)
outcome-from l p la access outcome wants.Absent h =
    and_from _ _ (faults-from l.head.cfg access causes.Absent outcome h.4) (found-from l p la (soughts.Entry wants.Absent) h.0 h.1 h.2 (ap (is_wanted wants.Absent) h.3))
outcome-from l p la access outcome wants.Reserved h =
    and_from _ _ (faults-from l.head.cfg access causes.Reserved outcome h.4) (found-from l p la (soughts.Entry wants.Reserved) h.0 h.1 h.2 (ap (is_wanted wants.Reserved) h.3))
outcome-from l p la access outcome wants.Present h = absurd h

pub assist_says : (l : Listed) (p la : ℕ) (access : AccessKind) (word : ℕ) (with_dirty : Bool) → finds l.head.cfg l.writes (processor_at l.processors p) la (soughts.Word access word with_dirty) ≡ true → MayAssist l.head (state_of l) p la access word with_dirty
assist_says l p la access word with_dirty h =
    let x = found l p la (soughts.Word access word with_dirty) h in
    let parts = and_parts _ _ x.3 in
    let first = and_parts _ _ parts.0 in
    (x.0, x.1, x.2, eqb-true _ _ first.0, first.1, parts.1)

pub assist-from : (l : Listed) (p la : ℕ) (access : AccessKind) (word : ℕ) (with_dirty : Bool) → MayAssist l.head (state_of l) p la access word with_dirty → finds l.head.cfg l.writes (processor_at l.processors p) la (soughts.Word access word with_dirty) ≡ true
assist-from l p la access word with_dirty h =
    found-from l p la (soughts.Word access word with_dirty) h.0 h.1 h.2 (and_from _ _ (and_from _ _ (eq-eqb word (entry_address h.1.table h.0 la) h.3) h.4) h.5)
