-- What is hashed of a key. It promises nothing to who looks a key up: any list would do that is the
-- same for keys that are the same.
use Rattle.std.specs.Prelude.{◌≡◌, ℕ, ◌+◌, ◌*◌, ◌^◌, IsTrue, List}
use Rattle.std.proofs.Common.{ap}
use Rattle.std.specs.Hash as fed
use Rattle.pg_inval.specs.declared.key.DropKey.{DropKey}
use Rattle.pg_inval.specs.declared.key.DropKey.TheVariants.{NotGlobal, Globals}
use Rattle.pg_inval.specs.declared.key.DropKey.TheVariants.{StructuresOf, Structure}
use Rattle.pg_inval.specs.declared.key.DropKey.TheVariants.{LocalsOf, Local, Global}
use Rattle.pg_inval.specs.Keys.{is_same_key}
use Rattle.pg_inval.specs.SameKey.{same_key}

-- a number of a kind, a PCID and a processor
abbrev pub numbered : ℕ → ℕ → ℕ → ℕ
numbered kind pcid p = (kind * 4096 + pcid) * 65536 + p

abbrev pub owner_of : DropKey → ℕ
owner_of (NotGlobal p) = numbered 0 0 p
owner_of (Globals p) = numbered 1 0 p
owner_of (StructuresOf p pcid) = numbered 2 pcid p
owner_of (Structure shift p pcid prefix) = numbered 3 pcid p
owner_of (LocalsOf p pcid) = numbered 4 pcid p
owner_of (Local shift p pcid number) = numbered 5 pcid p
owner_of (Global shift p number) = numbered 6 0 p

-- the number of its region or page
abbrev pub number_of : DropKey → ℕ
number_of (NotGlobal p) = 0
number_of (Globals p) = 0
number_of (StructuresOf p pcid) = 0
number_of (Structure shift p pcid prefix) = prefix
number_of (LocalsOf p pcid) = 0
number_of (Local shift p pcid number) = number
number_of (Global shift p number) = number

abbrev pub hashed : DropKey → List (List ℕ)
hashed k = fed.u128 (number_of k * 2 ^ 64 + owner_of k)

pub hashed-alike : (x y : DropKey) → IsTrue (is_same_key x y) → hashed x ≡ hashed y
hashed-alike x y h = ap hashed (same_key x y h)
