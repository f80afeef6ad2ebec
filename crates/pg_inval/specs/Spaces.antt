-- Spaces: entries that some events drop all at once.
use Rattle.std.specs.Prelude.{ℕ, if◌then◌else◌, List, [], ◌∷◌, Option}
use Rattle.pg_event.specs.declared.keys.StructureKey.{StructureKey}
use Rattle.pg_event.specs.declared.keys.TranslationKey.{TranslationKey}
use Rattle.pg_inval.specs.declared.key.DropKey.{DropKey}
use Rattle.pg_inval.specs.declared.key.DropKey.TheVariants as keys
use Rattle.pg_inval.specs.declared.space.Space.{Space}
use Rattle.pg_inval.specs.declared.space.Space.TheVariants.{Structures, Locals, Globals}
use Rattle.pg_inval.specs.Keys.{local_at, global_at}
use Rattle.pg_inval.specs.Lists.{Log, has_among, IsLeastBetween}

-- by what all of a space is dropped
abbrev pub space_keys : Space → List DropKey
space_keys (Structures p pcid) = keys.NotGlobal p ∷ keys.StructuresOf p pcid ∷ []
space_keys (Locals p pcid) = keys.NotGlobal p ∷ keys.LocalsOf p pcid ∷ []
space_keys (Globals p) = keys.Globals p ∷ []

-- the space of an entry of p
abbrev pub structure_space : ℕ → StructureKey → Space
structure_space p s = Structures p s.pcid

abbrev pub translation_space : ℕ → TranslationKey → Space
translation_space p t = if t.global then Globals p else Locals p t.pcid

-- by what one translation of p alone is dropped
abbrev pub own_key : ℕ → TranslationKey → DropKey
own_key p t = if t.global then global_at p t else local_at p t

-- the least moment of a window at which all of a space is dropped, if there is one
abbrev pub IsSpaceDrop : Log → Space → ℕ → ℕ → Option ℕ → Type 0
IsSpaceDrop log space from to found =
    IsLeastBetween (has_among log.entries (space_keys space)) from to found
