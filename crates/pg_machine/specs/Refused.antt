-- Why a step may not be taken, in the order of the reasons.
use Rattle.std.specs.Prelude.{◌≡◌, ◌≢◌, ℕ, ◌≤◌, ◌<◌, ◌⊎◌, Bool, Some, None, length, true, false}
use Rattle.pg_entry.specs.declared.Level.{Level}
use Rattle.pg_entry.specs.declared.Level.TheVariants.{Four, Three, Two}
use Rattle.pg_entry.specs.declared.Kind.TheVariants as kinds
use Rattle.pg_entry.specs.Kinds.{kind_of}
use Rattle.pg_event.specs.declared.event.Event.{Event}
use Rattle.pg_event.specs.declared.event.Event.TheVariants as events
use Rattle.pg_event.specs.declared.event.Malformed.{Malformed}
use Rattle.pg_event.specs.declared.event.Want.TheVariants as wants
use Rattle.pg_event.specs.declared.walk.Parent.{Parent}
use Rattle.pg_event.specs.Heads.{Head}
use Rattle.pg_event.specs.Form.{broken_rule}
use Rattle.pg_event.specs.Walk.{root_of}
use Rattle.pg_event.specs.Wants.{want_of}
use Rattle.pg_machine.specs.declared.step.Step.{Step}
use Rattle.pg_machine.specs.declared.step.Step.TheVariants.{Fill4, Fill3, Fill2, FillLeaf, Drop, Do}
use Rattle.pg_machine.specs.declared.stuck.Stuck.{Stuck}
use Rattle.pg_machine.specs.declared.stuck.Stuck.TheVariants as stucks
use Rattle.pg_machine.specs.Machine.{State, entry_now, may_cache, IsWalkable, MayRead, HasMember}
use Rattle.pg_machine.specs.Machine.{MayCome, MayTake}

-- no such processor, or the address of a fill is not canonical
abbrev pub LacksProcessor : Head → Step → Type 0
LacksProcessor head (Fill4 p la) = ¬ IsWalkable head p la
LacksProcessor head (Fill3 p la from) = ¬ IsWalkable head p la
LacksProcessor head (Fill2 p la from) = ¬ IsWalkable head p la
LacksProcessor head (FillLeaf p la level from) = ¬ IsWalkable head p la
LacksProcessor head (Drop p member) = length head.processors ≤ p
LacksProcessor head (Do e) = ⊥

abbrev pub LacksSourceAt : Head → State → ℕ → ℕ → Level → Parent → Type 0
LacksSourceAt head s p la level from = IsWalkable head p la × (¬ MayRead s p la level from)

-- the walk may not read the table of a fill
abbrev pub LacksSource : Head → State → Step → Type 0
LacksSource head s (Fill4 p la) = ⊥
LacksSource head s (Fill3 p la from) = LacksSourceAt head s p la Three from
LacksSource head s (Fill2 p la from) = LacksSourceAt head s p la Two from
LacksSource head s (FillLeaf p la level from) = LacksSourceAt head s p la level from
LacksSource head s (Drop p member) = ⊥
LacksSource head s (Do e) = ⊥

-- the entry that a level has is no table, or no page
abbrev pub IsNoTable : Head → State → ℕ → Level → Parent → Type 0
IsNoTable head s la level from =
    (addr : ℕ) → kind_of head.cfg level (entry_now s la level from) ≢ kinds.Table addr

abbrev pub IsNoLeaf : Head → State → ℕ → Level → Parent → Type 0
IsNoLeaf head s la level from =
    (frame shift : ℕ) (global : Bool) →
    kind_of head.cfg level (entry_now s la level from) ≢ kinds.Leaf frame shift global

-- an entry that the walk may read may not be cached, or it is of another kind
abbrev pub LacksKindAt : Head → State → ℕ → ℕ → Level → Parent → Type 0 → Type 0
LacksKindAt head s p la level from IsOther =
    IsWalkable head p la × MayRead s p la level from
    × ((may_cache head.version (entry_now s la level from) ≡ false) ⊎ IsOther)

-- the entry that a fill reads may not be cached, or is not what it wants
abbrev pub LacksKind : Head → State → Step → Type 0
LacksKind head s (Fill4 p la) =
    let root = root_of (s.control p) in
    LacksKindAt head s p la Four root (IsNoTable head s la Four root)
LacksKind head s (Fill3 p la from) =
    LacksKindAt head s p la Three from (IsNoTable head s la Three from)
LacksKind head s (Fill2 p la from) =
    LacksKindAt head s p la Two from (IsNoTable head s la Two from)
LacksKind head s (FillLeaf p la level from) =
    LacksKindAt head s p la level from (IsNoLeaf head s la level from)
LacksKind head s (Drop p member) = ⊥
LacksKind head s (Do e) = ⊥

-- there is nothing to drop
abbrev pub LacksMember : Head → State → Step → Type 0
LacksMember head s (Fill4 p la) = ⊥
LacksMember head s (Fill3 p la from) = ⊥
LacksMember head s (Fill2 p la from) = ⊥
LacksMember head s (FillLeaf p la level from) = ⊥
LacksMember head s (Drop p member) = (p < length head.processors) × (¬ HasMember s p member)
LacksMember head s (Do e) = ⊥

-- the event is an access to what a translation gives: an answer, or a fault by rights
abbrev pub IsByTranslation : Event → Type 0
IsByTranslation (events.Write p addr value) = ⊥
IsByTranslation (events.Access p flags la outcome moments) = want_of outcome ≡ wants.Leaf
IsByTranslation (events.Assist p flags la word moments) = ⊥
IsByTranslation (events.MovCr3 p operand) = ⊥
IsByTranslation (events.Invlpg p la) = ⊥
IsByTranslation (events.Invpcid p kind pcid la) = ⊥
IsByTranslation (events.MovCr4Pge p on) = ⊥

-- no translation gives the outcome of a well formed access
abbrev pub LacksTranslation : Head → State → Step → Type 0
LacksTranslation head s (Fill4 p la) = ⊥
LacksTranslation head s (Fill3 p la from) = ⊥
LacksTranslation head s (Fill2 p la from) = ⊥
LacksTranslation head s (FillLeaf p la level from) = ⊥
LacksTranslation head s (Drop p member) = ⊥
LacksTranslation head s (Do e) =
    (broken_rule head e ≡ None) × IsByTranslation e × (¬ MayCome head s e)

-- no entry that the walk may read gives the fault of a well formed access, or is one that a well
-- formed assist may set its bits in
abbrev pub LacksEntry : Head → State → Step → Type 0
LacksEntry head s (Fill4 p la) = ⊥
LacksEntry head s (Fill3 p la from) = ⊥
LacksEntry head s (Fill2 p la from) = ⊥
LacksEntry head s (FillLeaf p la level from) = ⊥
LacksEntry head s (Drop p member) = ⊥
LacksEntry head s (Do e) =
    (broken_rule head e ≡ None) × (¬ IsByTranslation e) × (¬ MayCome head s e)

-- the event breaks this rule, and none before it
abbrev pub IsMalformed : Head → Malformed → Step → Type 0
IsMalformed head rule (Fill4 p la) = ⊥
IsMalformed head rule (Fill3 p la from) = ⊥
IsMalformed head rule (Fill2 p la from) = ⊥
IsMalformed head rule (FillLeaf p la level from) = ⊥
IsMalformed head rule (Drop p member) = ⊥
IsMalformed head rule (Do e) = broken_rule head e ≡ Some rule

-- whether an event adds to what a machine holds: the memory of the machine lists its writes
abbrev pub adds_event : Event → Bool
adds_event (events.Write p addr value) = true
adds_event (events.Access p flags la outcome moments) = false
adds_event (events.Assist p flags la word moments) = true
adds_event (events.MovCr3 p operand) = false
adds_event (events.Invlpg p la) = false
adds_event (events.Invpcid p kind pcid la) = false
adds_event (events.MovCr4Pge p on) = false

abbrev pub adds : Step → Bool
adds (Fill4 p la) = true
adds (Fill3 p la from) = true
adds (Fill2 p la from) = true
adds (FillLeaf p la level from) = true
adds (Drop p member) = false
adds (Do e) = adds_event e

-- there is no memory for a step that may be taken
abbrev pub LacksMemory : Head → State → Step → Type 0
LacksMemory head s step = MayTake head s step × (adds step ≡ true)

-- what a step lacks where a machine is stuck so
abbrev pub Lacks : Head → State → Step → Stuck → Type 0
Lacks head s step stucks.Processor = LacksProcessor head step
Lacks head s step stucks.Source = LacksSource head s step
Lacks head s step stucks.Kind = LacksKind head s step
Lacks head s step stucks.Member = LacksMember head s step
Lacks head s step stucks.Translation = LacksTranslation head s step
Lacks head s step stucks.Entry = LacksEntry head s step
Lacks head s step (stucks.Malformed rule) = IsMalformed head rule step
Lacks head s step stucks.Memory = LacksMemory head s step
