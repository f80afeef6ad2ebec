-- What an event drops, and by what an entry is dropped, as keys.
use Rattle.std.specs.Prelude.{ℕ, Bool, true, false, if◌then◌else◌, List, [], ◌∷◌, ◌++◌}
use Rattle.std.specs.List.{list_any}
use Rattle.pg_entry.specs.declared.Level.TheVariants.{Four, Three, Two}
use Rattle.pg_event.specs.declared.keys.StructureKey.{StructureKey}
use Rattle.pg_event.specs.declared.keys.TranslationKey.{TranslationKey}
use Rattle.pg_event.specs.declared.invalidation.Invalidation.{Invalidation}
use Rattle.pg_event.specs.declared.invalidation.Invalidation.TheVariants.{Nothing, Address, Page}
use Rattle.pg_event.specs.declared.invalidation.Invalidation.TheVariants.{Pcid, Everything}
use Rattle.pg_event.specs.Invalidation.{level_shift, structure_key, translation_key}
use Rattle.pg_inval.specs.declared.key.DropKey.{DropKey}
use Rattle.pg_inval.specs.declared.key.DropKey.TheVariants.{NotGlobal, Globals}
use Rattle.pg_inval.specs.declared.key.DropKey.TheVariants.{StructuresOf, Structure}
use Rattle.pg_inval.specs.declared.key.DropKey.TheVariants.{LocalsOf, Local, Global}
use Rattle.pg_inval.specs.contracts.key.DropKeyPartialEq.TheImpl as impl

-- whether two keys are the same: the derived `==`
abbrev pub is_same_key : DropKey → DropKey → Bool
is_same_key a b = impl.eq-value.it a b

-- the processor of a key
abbrev pub processor_in : DropKey → ℕ
processor_in (NotGlobal p) = p
processor_in (Globals p) = p
processor_in (StructuresOf p pcid) = p
processor_in (Structure shift p pcid prefix) = p
processor_in (LocalsOf p pcid) = p
processor_in (Local shift p pcid number) = p
processor_in (Global shift p number) = p

-- whether a key is among some
abbrev pub has_key : List DropKey → DropKey → Bool
has_key keys k = list_any (λ d. is_same_key d k) keys

-- the key of one entry of p alone
abbrev pub structure_at : ℕ → StructureKey → DropKey
structure_at p s = Structure (level_shift s.level) p s.pcid s.prefix

abbrev pub local_at : ℕ → TranslationKey → DropKey
local_at p t = Local t.shift p t.pcid t.number

abbrev pub global_at : ℕ → TranslationKey → DropKey
global_at p t = Global t.shift p t.number

-- by what an entry of p is dropped
abbrev pub structure_keys : ℕ → StructureKey → List DropKey
structure_keys p s = NotGlobal p ∷ StructuresOf p s.pcid ∷ structure_at p s ∷ []

abbrev pub translation_keys : ℕ → TranslationKey → List DropKey
translation_keys p t =
    if t.global then Globals p ∷ global_at p t ∷ []
    else NotGlobal p ∷ LocalsOf p t.pcid ∷ local_at p t ∷ []

-- the entries of p that would be used for an address under a PCID
abbrev pub structures_for : ℕ → ℕ → ℕ → List DropKey
structures_for p pcid la =
    structure_at p (structure_key pcid Four la)
    ∷ structure_at p (structure_key pcid Three la)
    ∷ structure_at p (structure_key pcid Two la) ∷ []

abbrev pub locals_for : ℕ → ℕ → ℕ → List DropKey
locals_for p pcid la =
    local_at p (translation_key pcid 12 false la)
    ∷ local_at p (translation_key pcid 21 false la)
    ∷ local_at p (translation_key pcid 30 false la) ∷ []

abbrev pub globals_for : ℕ → ℕ → List DropKey
globals_for p la =
    global_at p (translation_key 0 12 true la)
    ∷ global_at p (translation_key 0 21 true la)
    ∷ global_at p (translation_key 0 30 true la) ∷ []

-- keys, where they go
abbrev pub given : Bool → List DropKey → List DropKey
given go keys = if go then keys else []

-- what an invalidation on p drops
abbrev pub dropped_keys : ℕ → Invalidation → List DropKey
dropped_keys p Nothing = []
dropped_keys p (Address pcid la structures translations globals) =
    given structures (structures_for p pcid la)
    ++ (given translations (locals_for p pcid la) ++ given globals (globals_for p la))
dropped_keys p (Page pcid la) =
    StructuresOf p pcid ∷ (locals_for p pcid la ++ globals_for p la)
dropped_keys p (Pcid pcid) = StructuresOf p pcid ∷ LocalsOf p pcid ∷ []
dropped_keys p (Everything globals) =
    NotGlobal p ∷ (if globals then Globals p ∷ [] else [])
