-- The table of what rights allow: each place is of the rights and the kind of access that have it.
use Rattle.std.proofs.Common.{◌≡◌, ◌<◌, ◌≤◌, ◌+◌, ℕ, Bool, true, false, List, length, get_or, set, ap, sym, refl, ◌∙◌, ⊎_elim, arith}
use Rattle.std.proofs.lemmas.List.{get_or-set_other}
use Rattle.std.proofs.lemmas.Grind.{get_or-set_at}
use Rattle.std.proofs.lemmas.Bool.Decides.{eqb_tells}
use Rattle.pg_entry.specs.declared.Rights.{Rights}
use Rattle.pg_entry.specs.declared.AccessKind.{AccessKind}
use Rattle.pg_entry.specs.declared.Op.{Op}
use Rattle.pg_entry.specs.declared.Op.TheVariants.{Read, Write, Fetch}
use Rattle.pg_entry.specs.Permission.{if_set}
use Rattle.pg_state.specs.Permissions.{op_number, place_of, rights_at, kind_at}

-- a further place is filled
pub filled : (table : List Bool) (n : ℕ) (f : ℕ → Bool) → n < length table → ((m : ℕ) → m < n → get_or table m false ≡ f m) →
    (m : ℕ) → m < n + 1 → get_or (set table n (f n)) m false ≡ f m
filled table n f within before m lt =
    ⊎_elim (λ same. get_or-set_at table n m (f n) false same.1 within ∙ ap f (sym same.1))
    (λ other. get_or-set_other table n m (f n) false other.1 ∙ before m (omega (arith, lt, other.1)))
    (eqb_tells m n)

if_set-most : (b : Bool) (n : ℕ) → if_set b n ≤ n
if_set-most true n = omega (arith)
if_set-most false n = omega (arith)

op_number-most : (op : Op) → op_number op ≤ 2
op_number-most Read = omega (arith)
op_number-most Write = omega (arith)
op_number-most Fetch = omega (arith)

-- there is such a place
pub place_within : (rights : Rights) (kind : AccessKind) → place_of rights kind < 128
place_within rights kind = omega (
  arith,
  if_set-most rights.write 1,
  if_set-most rights.user 2,
  if_set-most rights.xd 4,
  op_number-most kind.op,
  if_set-most kind.user 32,
  if_set-most kind.ac 64,
)

abbrev AreBack : Rights → AccessKind → Type 0
AreBack rights kind = (rights_at (place_of rights kind) ≡ rights) × (kind_at (place_of rights kind) ≡ kind)

each_place : (write user xd : Bool) (op : Op) (by_user ac : Bool) →
    AreBack (record { write = write; user = user; xd = xd }) (record { op = op; user = by_user; ac = ac })
each_place true true true Read true true = (refl, refl)
each_place true true true Read true false = (refl, refl)
each_place true true true Read false true = (refl, refl)
each_place true true true Read false false = (refl, refl)
each_place true true true Write true true = (refl, refl)
each_place true true true Write true false = (refl, refl)
each_place true true true Write false true = (refl, refl)
each_place true true true Write false false = (refl, refl)
each_place true true true Fetch true true = (refl, refl)
each_place true true true Fetch true false = (refl, refl)
each_place true true true Fetch false true = (refl, refl)
each_place true true true Fetch false false = (refl, refl)
each_place true true false Read true true = (refl, refl)
each_place true true false Read true false = (refl, refl)
each_place true true false Read false true = (refl, refl)
each_place true true false Read false false = (refl, refl)
each_place true true false Write true true = (refl, refl)
each_place true true false Write true false = (refl, refl)
each_place true true false Write false true = (refl, refl)
each_place true true false Write false false = (refl, refl)
each_place true true false Fetch true true = (refl, refl)
each_place true true false Fetch true false = (refl, refl)
each_place true true false Fetch false true = (refl, refl)
each_place true true false Fetch false false = (refl, refl)
each_place true false true Read true true = (refl, refl)
each_place true false true Read true false = (refl, refl)
each_place true false true Read false true = (refl, refl)
each_place true false true Read false false = (refl, refl)
each_place true false true Write true true = (refl, refl)
each_place true false true Write true false = (refl, refl)
each_place true false true Write false true = (refl, refl)
each_place true false true Write false false = (refl, refl)
each_place true false true Fetch true true = (refl, refl)
each_place true false true Fetch true false = (refl, refl)
each_place true false true Fetch false true = (refl, refl)
each_place true false true Fetch false false = (refl, refl)
each_place true false false Read true true = (refl, refl)
each_place true false false Read true false = (refl, refl)
each_place true false false Read false true = (refl, refl)
each_place true false false Read false false = (refl, refl)
each_place true false false Write true true = (refl, refl)
each_place true false false Write true false = (refl, refl)
each_place true false false Write false true = (refl, refl)
each_place true false false Write false false = (refl, refl)
each_place true false false Fetch true true = (refl, refl)
each_place true false false Fetch true false = (refl, refl)
each_place true false false Fetch false true = (refl, refl)
each_place true false false Fetch false false = (refl, refl)
each_place false true true Read true true = (refl, refl)
each_place false true true Read true false = (refl, refl)
each_place false true true Read false true = (refl, refl)
each_place false true true Read false false = (refl, refl)
each_place false true true Write true true = (refl, refl)
each_place false true true Write true false = (refl, refl)
each_place false true true Write false true = (refl, refl)
each_place false true true Write false false = (refl, refl)
each_place false true true Fetch true true = (refl, refl)
each_place false true true Fetch true false = (refl, refl)
each_place false true true Fetch false true = (refl, refl)
each_place false true true Fetch false false = (refl, refl)
each_place false true false Read true true = (refl, refl)
each_place false true false Read true false = (refl, refl)
each_place false true false Read false true = (refl, refl)
each_place false true false Read false false = (refl, refl)
each_place false true false Write true true = (refl, refl)
each_place false true false Write true false = (refl, refl)
each_place false true false Write false true = (refl, refl)
each_place false true false Write false false = (refl, refl)
each_place false true false Fetch true true = (refl, refl)
each_place false true false Fetch true false = (refl, refl)
each_place false true false Fetch false true = (refl, refl)
each_place false true false Fetch false false = (refl, refl)
each_place false false true Read true true = (refl, refl)
each_place false false true Read true false = (refl, refl)
each_place false false true Read false true = (refl, refl)
each_place false false true Read false false = (refl, refl)
each_place false false true Write true true = (refl, refl)
each_place false false true Write true false = (refl, refl)
each_place false false true Write false true = (refl, refl)
each_place false false true Write false false = (refl, refl)
each_place false false true Fetch true true = (refl, refl)
each_place false false true Fetch true false = (refl, refl)
each_place false false true Fetch false true = (refl, refl)
each_place false false true Fetch false false = (refl, refl)
each_place false false false Read true true = (refl, refl)
each_place false false false Read true false = (refl, refl)
each_place false false false Read false true = (refl, refl)
each_place false false false Read false false = (refl, refl)
each_place false false false Write true true = (refl, refl)
each_place false false false Write true false = (refl, refl)
each_place false false false Write false true = (refl, refl)
each_place false false false Write false false = (refl, refl)
each_place false false false Fetch true true = (refl, refl)
each_place false false false Fetch true false = (refl, refl)
each_place false false false Fetch false true = (refl, refl)
each_place false false false Fetch false false = (refl, refl)

-- and it is of these
pub place_back : (rights : Rights) (kind : AccessKind) → AreBack rights kind
place_back rights kind = each_place rights.write rights.user rights.xd kind.op kind.user kind.ac
