-- A step for which the stepper finds no reason to be stuck may be taken, and leads where the
-- definition says.
use Rattle.std.proofs.Common.{◌≡◌, ℕ, ◌<◌, Bool, true, false, not, ◌&&◌, if◌then◌else◌, Option, Some, None, length, nat_lt, refl, arith}
use Rattle.std.proofs.lemmas.Bool.{and_parts, ltb-true}
use Rattle.pg_entry.specs.declared.Level.{Level}
use Rattle.pg_entry.specs.declared.Level.TheVariants.{Four, Three, Two}
use Rattle.pg_entry.specs.Kinds.{kind_of}
use Rattle.pg_entry.specs.Permission.{joined}
use Rattle.pg_event.specs.Heads.{Head}
use Rattle.pg_event.specs.declared.event.Event.{Event}
use Rattle.pg_event.specs.declared.event.Event.TheVariants as events
use Rattle.pg_event.specs.declared.event.Malformed.{Malformed}
use Rattle.pg_event.specs.declared.event.Malformed.TheVariants as rules_
use Rattle.pg_event.specs.Form.{processor_of, is_canonical, access_kind, says_dirty, broken_rule}
use Rattle.pg_event.specs.Wants.{want_of}
use Rattle.pg_event.specs.declared.walk.Parent.{Parent}
use Rattle.pg_machine.specs.declared.step.Step.{Step}
use Rattle.pg_machine.specs.declared.step.Step.TheVariants.{Fill4, Fill3, Fill2, FillLeaf, Drop, Do}
use Rattle.pg_machine.specs.declared.stuck.Stuck.TheVariants as stucks
use Rattle.pg_machine.specs.Listed.{Listed, IsWhole, processor_at, state_of}
use Rattle.pg_machine.specs.Machine.{IsWalkable, MayRead, FindsTable, FindsLeaf, MayCome, MayTake, after, may_cache, with_table, translation_at}
use Rattle.pg_machine.specs.Stepping.{may_read, has_member, root_at, entry_of, filled, unusable, stuck_table, stuck_leaf, stuck_coming, stuck_step, next_table, next_step}
use Rattle.pg_machine.proofs.Guards.{guard_none, kind_none, malformed_none, choice_none, table_kind, leaf_kind}
use Rattle.pg_machine.proofs.Members.{reads, member_in}
use Rattle.pg_machine.proofs.Outcomes.{outcome_says, assist_says}
use Rattle.pg_machine.proofs.Changes.{structure_added, leaf_added, member_dropped, event_happened}

-- the level may be read, and what it has may be cached
abbrev MayUse : Listed → ℕ → ℕ → Level → Parent → Type 0
MayUse l p la level from =
    IsWalkable l.head p la × MayRead (state_of l) p la level from
    × (may_cache l.head.version (entry_of l la level from) ≡ true)

pub usable_says : (l : Listed) (p la : ℕ) (level : Level) (from : Parent) → unusable l p la level from ≡ None → MayUse l p la level from
usable_says l p la level from h =
    let first = guard_none (nat_lt p (length l.head.processors) && is_canonical la) stucks.Processor _ h in
    let second = guard_none (may_read (processor_at l.processors p) la level from) stucks.Source _ first.1 in
    let third = guard_none (may_cache l.head.version (entry_of l la level from)) stucks.Kind None second.1 in
    let address = and_parts (nat_lt p (length l.head.processors)) (is_canonical la) first.0 in
    ((ltb-true p (length l.head.processors) address.0, address.1), reads l p la level from second.0, third.0)

finds_table : (l : Listed) (p la : ℕ) (level : Level) (from : Parent) → stuck_table l p la level from ≡ None → FindsTable l.head (state_of l) p la level from
finds_table l p la level from h =
    let parts = kind_none (unusable l p la level from) _ h in
    let found = usable_says l p la level from parts.0 in
    let kind = table_kind (kind_of l.head.cfg level (entry_of l la level from)) parts.1 in
    (kind.0, (found.0, found.1, found.2, kind.1))

finds_leaf : (l : Listed) (p la : ℕ) (level : Level) (from : Parent) → stuck_leaf l p la level from ≡ None → FindsLeaf l.head (state_of l) p la level from
finds_leaf l p la level from h =
    let parts = kind_none (unusable l p la level from) _ h in
    let found = usable_says l p la level from parts.0 in
    let kind = leaf_kind (kind_of l.head.cfg level (entry_of l la level from)) parts.1 in
    (kind.0, kind.1, kind.2, (found.0, found.1, found.2, kind.3))

comes : (l : Listed) (e : Event) → stuck_coming l e ≡ None → MayCome l.head (state_of l) e
comes l (events.Access p flags la outcome moments) h =
    outcome_says l p la (access_kind flags) outcome (want_of outcome) (choice_none _ _ h)
comes l (events.Assist p flags la word moments) h =
    assist_says l p la (access_kind flags) word (says_dirty flags) (choice_none _ _ h)
comes l (events.Write p addr value) h = tt
comes l (events.MovCr3 p operand) h = tt
comes l (events.Invlpg p la) h = tt
comes l (events.Invpcid p kind pcid la) h = tt
comes l (events.MovCr4Pge p on) h = tt

pub may_take : (l : Listed) (step : Step) → stuck_step l step ≡ None → MayTake l.head (state_of l) step
may_take l (Fill4 p la) h = finds_table l p la Four (root_at l p) h
may_take l (Fill3 p la from) h = finds_table l p la Three from h
may_take l (Fill2 p la from) h = finds_table l p la Two from h
may_take l (FillLeaf p la level from) h = finds_leaf l p la level from h
may_take l (Drop p member) h =
    let first = guard_none (nat_lt p (length l.head.processors)) stucks.Processor _ h in
    let second = guard_none (has_member (processor_at l.processors p) member) stucks.Member None first.1 in
    member_in l p member second.0
may_take l (Do e) h =
    let parts = malformed_none (broken_rule l.head e) (stuck_coming l e) h in
    (parts.0, comes l e parts.1)

-- there is a place for each processor
there : (l : Listed) (p : ℕ) → IsWhole l → p < length l.head.processors → p < length l.processors
there l p whole h = omega (arith, whole.count)

rule_none : (b : Bool) (rule : Malformed) (rest : Option Malformed) → (if not b then Some rule else rest) ≡ None → b ≡ true
rule_none true rule rest h = refl
rule_none false rule rest h = cc

pub processor_there : (head : Head) (e : Event) → broken_rule head e ≡ None → processor_of e < length head.processors
processor_there head e h = ltb-true (processor_of e) (length head.processors) (rule_none (nat_lt (processor_of e) (length head.processors)) rules_.Processor _ h)

table_next : (l : Listed) (p la : ℕ) (level : Level) (from : Parent) → IsWhole l → stuck_table l p la level from ≡ None → state_of (next_table l p la level from) ≡ with_table l.head (state_of l) p la level from
table_next l p la level from whole h =
    let found = usable_says l p la level from (kind_none (unusable l p la level from) _ h).0 in
    structure_added l p (filled l.head.cfg.m (processor_at l.processors p).control.pcid la level from.rights (entry_of l la level from)) (there l p whole found.0.0)

pub leads_on : (l : Listed) (step : Step) → IsWhole l → stuck_step l step ≡ None → state_of (next_step l step) ≡ after l.head (state_of l) step
leads_on l (Fill4 p la) whole h = table_next l p la Four (root_at l p) whole h
leads_on l (Fill3 p la from) whole h = table_next l p la Three from whole h
leads_on l (Fill2 p la from) whole h = table_next l p la Two from whole h
leads_on l (FillLeaf p la level from) whole h =
    let found = usable_says l p la level from (kind_none (unusable l p la level from) _ h).0 in
    let entry = entry_of l la level from in
    leaf_added l p (translation_at (processor_at l.processors p).control la (joined from.rights entry) entry (kind_of l.head.cfg level entry)) (there l p whole found.0.0)
leads_on l (Drop p member) whole h =
    let first = guard_none (nat_lt p (length l.head.processors)) stucks.Processor _ h in
    member_dropped l p member (there l p whole (ltb-true p (length l.head.processors) first.0))
leads_on l (Do e) whole h =
    let parts = malformed_none (broken_rule l.head e) (stuck_coming l e) h in
    event_happened l e (there l (processor_of e) whole (processor_there l.head e parts.0))
