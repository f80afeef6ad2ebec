-- A reason for which the stepper is stuck is one that the step lacks, and no step that lacks it may
-- be taken.
use Rattle.std.proofs.Common.{◌≡◌, ◌≢◌, ℕ, ◌≤◌, Bool, true, false, ◌&&◌, Some, None, length, List, nat_lt, refl, subst, arith, ◌⊎◌, inl, inr, ⊎_elim}
use Rattle.std.proofs.lemmas.Bool.{and_parts, and_from, lt-ltb, ltb-true, ltb-false, both_ways}
use Rattle.pg_entry.specs.declared.Level.{Level}
use Rattle.pg_entry.specs.declared.Level.TheVariants.{Four, Three, Two}
use Rattle.pg_entry.specs.Kinds.{kind_of}
use Rattle.pg_event.specs.declared.event.Event.{Event}
use Rattle.pg_event.specs.declared.event.Event.TheVariants as events
use Rattle.pg_event.specs.declared.event.Malformed.{Malformed}
use Rattle.pg_event.specs.declared.event.Outcome.{Outcome}
use Rattle.pg_event.specs.declared.event.Want.{Want}
use Rattle.pg_event.specs.declared.event.Want.TheVariants as wants
use Rattle.pg_event.specs.Form.{is_canonical, access_kind, says_dirty, broken_rule}
use Rattle.pg_event.specs.Wants.{want_of}
use Rattle.pg_event.specs.declared.walk.Parent.{Parent}
use Rattle.pg_machine.specs.declared.sought.Sought.{Sought}
use Rattle.pg_machine.specs.declared.sought.Sought.TheVariants as soughts
use Rattle.pg_machine.specs.declared.step.Member.{Member}
use Rattle.pg_machine.specs.declared.step.Member.TheVariants as members
use Rattle.pg_machine.specs.declared.step.Step.{Step}
use Rattle.pg_machine.specs.declared.step.Step.TheVariants.{Fill4, Fill3, Fill2, FillLeaf, Drop, Do}
use Rattle.pg_machine.specs.declared.stuck.Stuck.{Stuck}
use Rattle.pg_machine.specs.declared.stuck.Stuck.TheVariants as stucks
use Rattle.pg_machine.specs.Listed.{ProcessorState, Listed, IsWhole, processor_at, state_of}
use Rattle.pg_machine.specs.Machine.{IsIn, IsWalkable, may_cache, MayRead, HasMember, HasOutcome, MayTake}
use Rattle.pg_machine.specs.Refused.{Lacks, LacksProcessor, adds}
use Rattle.pg_machine.specs.Stepping.{may_read, has_member, has_outcome, finds, root_at, entry_of, unusable, unless_kind, stuck_coming, stuck_step, lacking, IsStuckBy}
use Rattle.pg_machine.proofs.Guards.{guard_some, kind_some, malformed_some, choice_some, no_table_kind, no_leaf_kind}
use Rattle.pg_machine.proofs.Members.{reads, may_read-from, in_members}
use Rattle.pg_machine.proofs.Outcomes.{outcome-from, assist-from}
use Rattle.pg_machine.proofs.Processors.{processor_at_past}
use Rattle.pg_machine.proofs.Taken.{usable_says, may_take}

no_address : (l : Listed) (p la : ℕ) → (nat_lt p (length l.head.processors) && is_canonical la) ≡ false → ¬ IsWalkable l.head p la
no_address l p la h address = both_ways _ h (and_from _ _ (lt-ltb p (length l.head.processors) address.0) address.1)

address_says : (l : Listed) (p la : ℕ) → (nat_lt p (length l.head.processors) && is_canonical la) ≡ true → IsWalkable l.head p la
address_says l p la h = let parts = and_parts _ _ h in (ltb-true p (length l.head.processors) parts.0, parts.1)

-- why a fill is stuck, by the reasons that it may have
stuck_fill : (l : Listed) (p la : ℕ) (level : Level) (from : Parent) (right : Bool) (d : Stuck) (P : Stuck → Type 0) → (¬ IsWalkable l.head p la → P stucks.Processor) → (IsWalkable l.head p la × (¬ MayRead (state_of l) p la level from) → P stucks.Source) → (IsWalkable l.head p la → MayRead (state_of l) p la level from → (may_cache l.head.version (entry_of l la level from) ≡ false) ⊎ (right ≡ false) → P stucks.Kind) → unless_kind (unusable l p la level from) right ≡ Some d → P d
stuck_fill l p la level from right d P processor source kind h =
    ⊎_elim
    (λ unused.
    ⊎_elim (λ (none, same). subst P same (processor (no_address l p la none)))
    (λ (address, rest).
    ⊎_elim (λ (none, same). subst P same (source (address_says l p la address, λ read. both_ways _ none (may_read-from l p la level from read))))
    (λ (read, last).
    ⊎_elim (λ (none, same). subst P same (kind (address_says l p la address) (reads l p la level from read) (inl none)))
    (λ (cached, never). cc)
    (guard_some (may_cache l.head.version (entry_of l la level from)) stucks.Kind d None last))
    (guard_some (may_read (processor_at l.processors p) la level from) stucks.Source d _ rest))
    (guard_some (nat_lt p (length l.head.processors) && is_canonical la) stucks.Processor d _ unused))
    (λ (none, wrong, same).
    let usable = usable_says l p la level from none in
    subst P same (kind usable.0 usable.1 (inr wrong)))
    (kind_some (unusable l p la level from) right d h)

-- a fill that lacks the kind of its entry
of_kind : {A B C : Type 0} → (B → C) → A ⊎ B → A ⊎ C
of_kind f (inl h) = inl h
of_kind f (inr h) = inr (f h)

-- why an access is stuck
lacks_outcome : (l : Listed) (p flags la : ℕ) (outcome : Outcome) (moments : List ℕ) (want : Want) → broken_rule l.head (events.Access p flags la outcome moments) ≡ None → want_of outcome ≡ want → (¬ HasOutcome l.head (state_of l) p la (access_kind flags) outcome (want_of outcome)) → Lacks l.head (state_of l) (Do (events.Access p flags la outcome moments)) (lacking want)
lacks_outcome l p flags la outcome moments wants.Leaf formed is not_so = (formed, is, not_so)
lacks_outcome l p flags la outcome moments wants.Absent formed is not_so = (formed, λ other. cc, not_so)
lacks_outcome l p flags la outcome moments wants.Reserved formed is not_so = (formed, λ other. cc, not_so)
lacks_outcome l p flags la outcome moments wants.Present formed is not_so = (formed, λ other. cc, not_so)

-- why an event is stuck
lacks_coming : (l : Listed) (e : Event) (d : Stuck) → broken_rule l.head e ≡ None → stuck_coming l e ≡ Some d → Lacks l.head (state_of l) (Do e) d
lacks_coming l (events.Access p flags la outcome moments) d formed h =
    let want = want_of outcome in
    let parts = choice_some (has_outcome l.head l.writes (processor_at l.processors p) (access_kind flags) la outcome want) (lacking want) d h in
    let P : Stuck → Type 0 = Lacks l.head (state_of l) (Do (events.Access p flags la outcome moments)) in
    subst P parts.1 (lacks_outcome l p flags la outcome moments want formed refl (λ so. both_ways _ parts.0 (outcome-from l p la (access_kind flags) outcome want so)))
lacks_coming l (events.Assist p flags la word moments) d formed h =
    let sought : Sought = soughts.Word (access_kind flags) word (says_dirty flags) in
    let parts = choice_some (finds l.head.cfg l.writes (processor_at l.processors p) la sought) stucks.Entry d h in
    let P : Stuck → Type 0 = Lacks l.head (state_of l) (Do (events.Assist p flags la word moments)) in
    subst P parts.1 (formed, λ by. by, λ so. both_ways _ parts.0 (assist-from l p la (access_kind flags) word (says_dirty flags) so))
lacks_coming l (events.Write p addr value) d formed h = cc
lacks_coming l (events.MovCr3 p operand) d formed h = cc
lacks_coming l (events.Invlpg p la) d formed h = cc
lacks_coming l (events.Invpcid p kind pcid la) d formed h = cc
lacks_coming l (events.MovCr4Pge p on) d formed h = cc

lacks_step : (l : Listed) (step : Step) (d : Stuck) → stuck_step l step ≡ Some d → Lacks l.head (state_of l) step d
lacks_step l (Fill4 p la) d h =
    let from = root_at l p in
    stuck_fill l p la Four from _ d (Lacks l.head (state_of l) (Fill4 p la)) (λ none. none) (λ none. absurd (none.1 refl))
    (λ address read wrong. (address, read, of_kind (no_table_kind (kind_of l.head.cfg Four (entry_of l la Four from))) wrong)) h
lacks_step l (Fill3 p la from) d h =
    stuck_fill l p la Three from _ d (Lacks l.head (state_of l) (Fill3 p la from)) (λ none. none) (λ none. none)
    (λ address read wrong. (address, read, of_kind (no_table_kind (kind_of l.head.cfg Three (entry_of l la Three from))) wrong)) h
lacks_step l (Fill2 p la from) d h =
    stuck_fill l p la Two from _ d (Lacks l.head (state_of l) (Fill2 p la from)) (λ none. none) (λ none. none)
    (λ address read wrong. (address, read, of_kind (no_table_kind (kind_of l.head.cfg Two (entry_of l la Two from))) wrong)) h
lacks_step l (FillLeaf p la level from) d h =
    stuck_fill l p la level from _ d (Lacks l.head (state_of l) (FillLeaf p la level from)) (λ none. none) (λ none. none)
    (λ address read wrong. (address, read, of_kind (no_leaf_kind (kind_of l.head.cfg level (entry_of l la level from))) wrong)) h
lacks_step l (Drop p member) d h =
    let P : Stuck → Type 0 = Lacks l.head (state_of l) (Drop p member) in
    ⊎_elim (λ (none, same). subst P same (ltb-false p (length l.head.processors) none))
    (λ (there, rest).
    ⊎_elim (λ (none, same). subst P same (ltb-true p (length l.head.processors) there, λ held. both_ways _ none (in_members l p member held)))
    (λ (held, never). cc)
    (guard_some (has_member (processor_at l.processors p) member) stucks.Member d None rest))
    (guard_some (nat_lt p (length l.head.processors)) stucks.Processor d _ h)
lacks_step l (Do e) d h =
    let P : Stuck → Type 0 = Lacks l.head (state_of l) (Do e) in
    ⊎_elim (λ (rule, broken, same). subst P same broken)
    (λ (formed, stuck). lacks_coming l e d formed stuck)
    (malformed_some (broken_rule l.head e) (stuck_coming l e) d h)

pub lacks : (l : Listed) (step : Step) (e : Stuck) → IsStuckBy (adds step) (stuck_step l step) e → Lacks l.head (state_of l) step e
lacks l step stucks.Processor h = lacks_step l step stucks.Processor h
lacks l step stucks.Source h = lacks_step l step stucks.Source h
lacks l step stucks.Kind h = lacks_step l step stucks.Kind h
lacks l step stucks.Member h = lacks_step l step stucks.Member h
lacks l step stucks.Translation h = lacks_step l step stucks.Translation h
lacks l step stucks.Entry h = lacks_step l step stucks.Entry h
lacks l step (stucks.Malformed rule) h = lacks_step l step (stucks.Malformed rule) h
lacks l step stucks.Memory h = (may_take l step h.0, h.1)

-- a processor that is not there holds nothing
nothing_held : (l : Listed) (p : ℕ) (member : Member) → length l.processors ≤ p → ¬ HasMember (state_of l) p member
nothing_held l p (members.Structure x) past held =
    let P : ProcessorState → Type 0 = λ processor. IsIn x processor.structures in subst P (processor_at_past l.processors p past) held
nothing_held l p (members.Translation x) past held =
    let P : ProcessorState → Type 0 = λ processor. IsIn x processor.translations in subst P (processor_at_past l.processors p past) held

refused_processor : (l : Listed) (step : Step) → IsWhole l → LacksProcessor l.head step → ¬ MayTake l.head (state_of l) step
refused_processor l (Fill4 p la) whole h take = h take.1.0
refused_processor l (Fill3 p la from) whole h take = h take.1.0
refused_processor l (Fill2 p la from) whole h take = h take.1.0
refused_processor l (FillLeaf p la level from) whole h take = h take.3.0
refused_processor l (Drop p member) whole h take = nothing_held l p member (omega (arith, whole.count)) take
refused_processor l (Do e) whole h take = absurd h

refused_source : (l : Listed) (step : Step) → Lacks l.head (state_of l) step stucks.Source → ¬ MayTake l.head (state_of l) step
refused_source l (Fill3 p la from) h take = h.1 take.1.1
refused_source l (Fill2 p la from) h take = h.1 take.1.1
refused_source l (FillLeaf p la level from) h take = h.1 take.3.1
refused_source l (Fill4 p la) h take = absurd h
refused_source l (Drop p member) h take = absurd h
refused_source l (Do e) h take = absurd h

refused_kind : (l : Listed) (step : Step) → Lacks l.head (state_of l) step stucks.Kind → ¬ MayTake l.head (state_of l) step
refused_kind l (Fill4 p la) h take = ⊎_elim (λ uncached. both_ways _ uncached take.1.2) (λ other. other take.0 take.1.3) h.2
refused_kind l (Fill3 p la from) h take = ⊎_elim (λ uncached. both_ways _ uncached take.1.2) (λ other. other take.0 take.1.3) h.2
refused_kind l (Fill2 p la from) h take = ⊎_elim (λ uncached. both_ways _ uncached take.1.2) (λ other. other take.0 take.1.3) h.2
refused_kind l (FillLeaf p la level from) h take = ⊎_elim (λ uncached. both_ways _ uncached take.3.2) (λ other. other take.0 take.1 take.2 take.3.3) h.2
refused_kind l (Drop p member) h take = absurd h
refused_kind l (Do e) h take = absurd h

refused_member : (l : Listed) (step : Step) → Lacks l.head (state_of l) step stucks.Member → ¬ MayTake l.head (state_of l) step
refused_member l (Drop p member) h take = h.1 take
refused_member l (Fill4 p la) h take = absurd h
refused_member l (Fill3 p la from) h take = absurd h
refused_member l (Fill2 p la from) h take = absurd h
refused_member l (FillLeaf p la level from) h take = absurd h
refused_member l (Do e) h take = absurd h

refused_translation : (l : Listed) (step : Step) → Lacks l.head (state_of l) step stucks.Translation → ¬ MayTake l.head (state_of l) step
refused_translation l (Do e) h take = h.2 take.1
refused_translation l (Drop p member) h take = absurd h
refused_translation l (Fill4 p la) h take = absurd h
refused_translation l (Fill3 p la from) h take = absurd h
refused_translation l (Fill2 p la from) h take = absurd h
refused_translation l (FillLeaf p la level from) h take = absurd h

refused_entry : (l : Listed) (step : Step) → Lacks l.head (state_of l) step stucks.Entry → ¬ MayTake l.head (state_of l) step
refused_entry l (Do e) h take = h.2 take.1
refused_entry l (Drop p member) h take = absurd h
refused_entry l (Fill4 p la) h take = absurd h
refused_entry l (Fill3 p la from) h take = absurd h
refused_entry l (Fill2 p la from) h take = absurd h
refused_entry l (FillLeaf p la level from) h take = absurd h

refused_malformed : (l : Listed) (step : Step) (rule : Malformed) → Lacks l.head (state_of l) step (stucks.Malformed rule) → ¬ MayTake l.head (state_of l) step
refused_malformed l (Do e) rule h take = let formed = take.0 in cc
refused_malformed l (Drop p member) rule h take = absurd h
refused_malformed l (Fill4 p la) rule h take = absurd h
refused_malformed l (Fill3 p la from) rule h take = absurd h
refused_malformed l (Fill2 p la from) rule h take = absurd h
refused_malformed l (FillLeaf p la level from) rule h take = absurd h

-- no step that lacks something may be taken
pub refused : (l : Listed) (step : Step) (e : Stuck) → IsWhole l → Lacks l.head (state_of l) step e → e ≢ stucks.Memory → ¬ MayTake l.head (state_of l) step
refused l step stucks.Processor whole h other = refused_processor l step whole h
refused l step stucks.Source whole h other = refused_source l step h
refused l step stucks.Kind whole h other = refused_kind l step h
refused l step stucks.Member whole h other = refused_member l step h
refused l step stucks.Translation whole h other = refused_translation l step h
refused l step stucks.Entry whole h other = refused_entry l step h
refused l step (stucks.Malformed rule) whole h other = refused_malformed l step rule h
refused l step stucks.Memory whole h other = absurd (other refl)
