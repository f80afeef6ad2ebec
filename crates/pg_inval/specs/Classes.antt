-- The classes of keys, and what an event drops of each.
use Rattle.std.specs.Prelude.{ℕ, ◌==◌, Bool, false, true, if◌then◌else◌, List, [], ◌∷◌}
use Rattle.pg_event.specs.declared.invalidation.Invalidation.{Invalidation}
use Rattle.pg_event.specs.declared.invalidation.Invalidation.TheVariants.{Nothing, Address, Page}
use Rattle.pg_event.specs.declared.invalidation.Invalidation.TheVariants.{Pcid, Everything}
use Rattle.pg_event.specs.Invalidation.{translation_key}
use Rattle.pg_inval.specs.declared.class.Class.{Class}
use Rattle.pg_inval.specs.declared.class.Class.TheVariants.{Pages, LargePages, GlobalPages}
use Rattle.pg_inval.specs.declared.class.Class.TheVariants.{Regions, Spaces}
use Rattle.pg_inval.specs.declared.key.DropKey.{DropKey}
use Rattle.pg_inval.specs.declared.key.DropKey.TheVariants as keys
use Rattle.pg_inval.specs.Keys.{structures_for, local_at, globals_for, given}

abbrev pub class_of : DropKey → Class
class_of (keys.NotGlobal p) = Spaces
class_of (keys.Globals p) = Spaces
class_of (keys.StructuresOf p pcid) = Spaces
class_of (keys.Structure shift p pcid prefix) = Regions
class_of (keys.LocalsOf p pcid) = Spaces
class_of (keys.Local shift p pcid number) = if shift == 12 then Pages else LargePages
class_of (keys.Global shift p number) = GlobalPages

-- whether a class is that of large or of global pages
abbrev pub is_wide_class : Class → Bool
is_wide_class Pages = false
is_wide_class LargePages = true
is_wide_class GlobalPages = true
is_wide_class Regions = false
is_wide_class Spaces = false

-- whether a key is that of a large or of a global page
abbrev pub is_wide : DropKey → Bool
is_wide k = is_wide_class (class_of k)

-- what an invalidation on p drops of a class
abbrev pub pages_in : ℕ → Invalidation → List DropKey
pages_in p Nothing = []
pages_in p (Address pcid la structures translations globals) =
    given translations (local_at p (translation_key pcid 12 false la) ∷ [])
pages_in p (Page pcid la) = local_at p (translation_key pcid 12 false la) ∷ []
pages_in p (Pcid pcid) = []
pages_in p (Everything globals) = []

abbrev pub large_pages_for : ℕ → ℕ → ℕ → List DropKey
large_pages_for p pcid la =
    local_at p (translation_key pcid 21 false la)
    ∷ local_at p (translation_key pcid 30 false la) ∷ []

abbrev pub large_pages_in : ℕ → Invalidation → List DropKey
large_pages_in p Nothing = []
large_pages_in p (Address pcid la structures translations globals) =
    given translations (large_pages_for p pcid la)
large_pages_in p (Page pcid la) = large_pages_for p pcid la
large_pages_in p (Pcid pcid) = []
large_pages_in p (Everything globals) = []

abbrev pub global_pages_in : ℕ → Invalidation → List DropKey
global_pages_in p Nothing = []
global_pages_in p (Address pcid la structures translations globals) =
    given globals (globals_for p la)
global_pages_in p (Page pcid la) = globals_for p la
global_pages_in p (Pcid pcid) = []
global_pages_in p (Everything globals) = []

abbrev pub regions_in : ℕ → Invalidation → List DropKey
regions_in p Nothing = []
regions_in p (Address pcid la structures translations globals) =
    given structures (structures_for p pcid la)
regions_in p (Page pcid la) = []
regions_in p (Pcid pcid) = []
regions_in p (Everything globals) = []

abbrev pub spaces_in : ℕ → Invalidation → List DropKey
spaces_in p Nothing = []
spaces_in p (Address pcid la structures translations globals) = []
spaces_in p (Page pcid la) = keys.StructuresOf p pcid ∷ []
spaces_in p (Pcid pcid) = keys.StructuresOf p pcid ∷ keys.LocalsOf p pcid ∷ []
spaces_in p (Everything globals) =
    keys.NotGlobal p ∷ (if globals then keys.Globals p ∷ [] else [])

abbrev pub keys_in : Class → ℕ → Invalidation → List DropKey
keys_in Pages p i = pages_in p i
keys_in LargePages p i = large_pages_in p i
keys_in GlobalPages p i = global_pages_in p i
keys_in Regions p i = regions_in p i
keys_in Spaces p i = spaces_in p i
