-- Where a walk reads: its table and the entry lie within the physical addresses.
use Rattle.std.proofs.Common.{◌≡◌, ℕ, ◌+◌, ◌-◌, ◌*◌, ◌/◌, ◌%◌, ◌^◌, ◌<◌, ◌≤◌, Bool, true, false, ◌&&◌, nat_lt, nat_eq, length, refl, ◌∙◌, ap, subst, arith}
use Rattle.std.proofs.lemmas.Bool.{ltb-true, lt-ltb, eqb-true}
use Rattle.std.proofs.lemmas.Nat.{pow-add, div_below, mod_below, pow_pos, shl_below}
use Rattle.std.proofs.Math.Nat.{div-add-mod', mul-mod_left}
use lib.Pow.{pow_mono}
use Rattle.pg_entry.specs.declared.Level.{Level}
use Rattle.pg_event.specs.Heads.{Head}
use Rattle.pg_event.specs.Form.{is_canonical, is_word}
use Rattle.pg_event.specs.Invalidation.{level_shift}
use Rattle.pg_event.specs.Walk.{entry_address}
use Rattle.pg_world.specs.declared.walk.Walk.{Walk}
use Rattle.pg_world.specs.Laws.{TablesHaveAddresses}
use Rattle.pg_world.specs.Walks.{levels_above, moments_of, is_table_address, is_walk}

pub left_of : (a b : Bool) → (a && b) ≡ true → a ≡ true
left_of true b h = refl
left_of false b h = absurd cc

pub right_of : (a b : Bool) → (a && b) ≡ true → b ≡ true
right_of true b h = h
right_of false b h = absurd cc

-- what a walk that may read has
pub record MayRead (head : Head) (p : ℕ) (walk : Walk) : Type 0 where
  pub processor : nat_lt p (length head.processors) ≡ true
  pub address : is_canonical walk.la ≡ true
  pub table : is_table_address head.cfg.m walk.table ≡ true
  pub moments : length (moments_of walk.moments) ≡ levels_above walk.level

pub may_read : (head : Head) (p : ℕ) (walk : Walk) → is_walk head p walk ≡ true → MayRead head p walk
may_read head p walk h =
    let a : Bool = nat_lt p (length head.processors) in
    let b : Bool = is_canonical walk.la in
    let c : Bool = is_table_address head.cfg.m walk.table in
    let d : Bool = nat_eq (length (moments_of walk.moments)) (levels_above walk.level) in
    let abc = left_of (a && b && c) d h in
    let ab = left_of (a && b) c abc in record {
      processor = left_of a b ab;
      address = right_of a b ab;
      table = right_of (a && b) c abc;
      moments = eqb-true (length (moments_of walk.moments)) (levels_above walk.level) (right_of (a && b && c) d h);
    }

-- a table lies within the physical addresses
pub table-below : (m table : ℕ) → m ≤ 52 → is_table_address m table ≡ true → table < 2 ^ 52
table-below m table within h =
    let here : table < 2 ^ m = ltb-true table (2 ^ m) (right_of (nat_eq (table % 4096) 0) (nat_lt table (2 ^ m)) h) in
    let most : 2 ^ m ≤ 2 ^ 52 = pow_mono within in
    omega (arith, here, most)

-- the entries of a table are words
pub entry-word : (m table : ℕ) (level : Level) (la : ℕ) → 12 ≤ m → is_table_address m table ≡ true → is_word m (entry_address table level la) ≡ true
entry-word m table level la least h =
    let index : ℕ = la / 2 ^ level_shift level % 512 in
    let few : index < 512 = mod_below (la / 2 ^ level_shift level) 512 (omega arith) in
    let whole : table % 4096 ≡ 0 = eqb-true (table % 4096) 0 (left_of (nat_eq (table % 4096) 0) (nat_lt table (2 ^ m)) h) in
    let here : table < 2 ^ m = ltb-true table (2 ^ m) (right_of (nat_eq (table % 4096) 0) (nat_lt table (2 ^ m)) h) in
    let parts : m ≡ (m - 12) + 12 = omega arith in
    let pages : ℕ = 2 ^ (m - 12) in
    let size : 2 ^ m ≡ pages * 4096 = ap (λ (k : ℕ). 2 ^ k) parts ∙ pow-add 2 (m - 12) 12 in
    let page : ℕ = table / 4096 in
    let split : page * 4096 + table % 4096 ≡ table = div-add-mod' table 4096 in
    let inside : page < pages = div_below table 4096 pages (omega arith) (omega (arith, here, size)) in
    let below : entry_address table level la < 2 ^ m = omega (arith, few, whole, split, inside, size) in
    let aligned : entry_address table level la % 8 ≡ 0 = omega (arith, whole, split) in
    rw aligned (lt-ltb (entry_address table level la) (2 ^ m) below)

-- what an entry refers to is the address of a table
pub tables_have_addresses : TablesHaveAddresses
tables_have_addresses m value least =
    let number : ℕ = value / 2 ^ 12 % 2 ^ (m - 12) in
    let few : number < 2 ^ (m - 12) = mod_below (value / 2 ^ 12) (2 ^ (m - 12)) (pow_pos (m - 12)) in
    let parts : (m - 12) + 12 ≡ m = omega arith in
    let P : ℕ → Type 0 = λ n. number * 2 ^ 12 < 2 ^ n in
    let below : number * 2 ^ 12 < 2 ^ m = subst P parts (shl_below number (m - 12) 12 few) in
    rw mul-mod_left (lt-ltb (number * 2 ^ 12) (2 ^ m) below)
