-- What the kind of an entry says, and what the codes of faults want.
use Rattle.std.proofs.Common.{◌≡◌, ℕ, ◌+◌, ◌/◌, ◌%◌, ◌^◌, Bool, true, false, not, cond, ◌&&◌, ◌||◌, refl, ap, sym, arith, Option, Some, None}
use Rattle.pg_entry.specs.declared.Cfg.{Cfg}
use Rattle.pg_entry.specs.declared.AccessKind.{AccessKind}
use Rattle.pg_entry.specs.declared.Level.{Level}
use Rattle.pg_entry.specs.declared.Level.TheVariants.{Four, Three, Two, One}
use Rattle.pg_entry.specs.declared.Kind.TheVariants as kinds
use Rattle.pg_entry.specs.declared.Cause.TheVariants as causes
use Rattle.pg_entry.specs.Bits.{has_bit}
use Rattle.pg_entry.specs.Kinds.{kind_of, is_reserved, leaf_shift, target, table_of, smep, nxe}
use Rattle.pg_entry.specs.Permission.{fault_code, if_set, is_write, is_fetch}
use Rattle.pg_event.specs.declared.event.Outcome.TheVariants.{Fault}
use Rattle.pg_event.specs.declared.event.Want.TheVariants as wants
use Rattle.pg_event.specs.Invalidation.{bits_from, level_shift}
use Rattle.pg_event.specs.Walk.{below}
use Rattle.pg_event.specs.Wants.{want_of}
use Rattle.pg_shadow.specs.Caches.{is_page_shift}

-- two addresses that agree down to the next level agree down to this one
pub coarser : (level : Level) (a b : ℕ) → bits_from (level_shift (below level)) a ≡ bits_from (level_shift (below level)) b → bits_from (level_shift level) a ≡ bits_from (level_shift level) b
coarser Four a b h = omega arith
coarser Three a b h = omega arith
coarser Two a b h = omega arith
coarser One a b h = h

-- and they pick the same entry there
pub index_same : (level : Level) (a b : ℕ) → bits_from (level_shift level) a ≡ bits_from (level_shift level) b → a / 2 ^ level_shift level % 512 ≡ b / 2 ^ level_shift level % 512
index_same Four a b h = omega arith
index_same Three a b h = omega arith
index_same Two a b h = omega arith
index_same One a b h = omega arith

chosen_table : (b c : Bool) (m e addr : ℕ) (o : Option ℕ) → cond b kinds.Absent (cond c kinds.Reserved (target m e o)) ≡ kinds.Table addr → table_of m e ≡ addr
chosen_table true c m e addr o h = absurd (cc)
chosen_table false true m e addr o h = absurd (cc)
chosen_table false false m e addr None h = cc
chosen_table false false m e addr (Some shift) h = absurd (cc)

-- the table that an entry refers to
pub table_is : (cfg : Cfg) (level : Level) (e addr : ℕ) → kind_of cfg level e ≡ kinds.Table addr → table_of cfg.m e ≡ addr
table_is cfg level e addr h = chosen_table (not (has_bit e 0)) (is_reserved cfg level e) cfg.m e addr (leaf_shift level e) h

chosen_leaf : (b c : Bool) (m e frame shift : ℕ) (g : Bool) (o : Option ℕ) → cond b kinds.Absent (cond c kinds.Reserved (target m e o)) ≡ kinds.Leaf frame shift g → o ≡ Some shift
chosen_leaf true c m e frame shift g o h = absurd (cc)
chosen_leaf false true m e frame shift g o h = absurd (cc)
chosen_leaf false false m e frame shift g None h = absurd (cc)
chosen_leaf false false m e frame shift g (Some s) h = cc

some_if : (b : Bool) (n shift : ℕ) → cond b (Some n) None ≡ Some shift → n ≡ shift
some_if true n shift h = cc
some_if false n shift h = absurd (cc)

shift_of_level : (level : Level) (e shift : ℕ) → leaf_shift level e ≡ Some shift → level_shift level ≡ shift
shift_of_level Four e shift h = absurd (cc)
shift_of_level Three e shift h = some_if (has_bit e 7) 30 shift h
shift_of_level Two e shift h = some_if (has_bit e 7) 21 shift h
shift_of_level One e shift h = cc

leaf_shift_is : (cfg : Cfg) (level : Level) (e frame shift : ℕ) (g : Bool) → kind_of cfg level e ≡ kinds.Leaf frame shift g → leaf_shift level e ≡ Some shift
leaf_shift_is cfg level e frame shift g h = chosen_leaf (not (has_bit e 0)) (is_reserved cfg level e) cfg.m e frame shift g (leaf_shift level e) h

-- the size of a leaf's page is its level's
pub shift_is : (cfg : Cfg) (level : Level) (e frame shift : ℕ) (g : Bool) → kind_of cfg level e ≡ kinds.Leaf frame shift g → level_shift level ≡ shift
shift_is cfg level e frame shift g h = shift_of_level level e shift (leaf_shift_is cfg level e frame shift g h)

size_of_level : (level : Level) (e shift : ℕ) → leaf_shift level e ≡ Some shift → is_page_shift shift ≡ true
size_of_level Four e shift h = absurd (cc)
size_of_level Three e shift h = ap is_page_shift (sym (some_if (has_bit e 7) 30 shift h))
size_of_level Two e shift h = ap is_page_shift (sym (some_if (has_bit e 7) 21 shift h))
size_of_level One e shift h = let same : 12 ≡ shift = cc in ap is_page_shift (sym same)

-- it is 4 KB, 2 MB or 1 GB
pub size_is : (cfg : Cfg) (level : Level) (e frame shift : ℕ) (g : Bool) → kind_of cfg level e ≡ kinds.Leaf frame shift g → is_page_shift shift ≡ true
size_is cfg level e frame shift g h = size_of_level level e shift (leaf_shift_is cfg level e frame shift g h)

absent_sum : (w u f : Bool) → want_of (Fault (if_set false 1 + if_set w 2 + if_set u 4 + if_set false 8 + if_set f 16)) ≡ wants.Absent
absent_sum true true true = refl
absent_sum true true false = refl
absent_sum true false true = refl
absent_sum true false false = refl
absent_sum false true true = refl
absent_sum false true false = refl
absent_sum false false true = refl
absent_sum false false false = refl

reserved_sum : (w u f : Bool) → want_of (Fault (if_set true 1 + if_set w 2 + if_set u 4 + if_set true 8 + if_set f 16)) ≡ wants.Reserved
reserved_sum true true true = refl
reserved_sum true true false = refl
reserved_sum true false true = refl
reserved_sum true false false = refl
reserved_sum false true true = refl
reserved_sum false true false = refl
reserved_sum false false true = refl
reserved_sum false false false = refl

denied_sum : (w u f : Bool) → want_of (Fault (if_set true 1 + if_set w 2 + if_set u 4 + if_set false 8 + if_set f 16)) ≡ wants.Leaf
denied_sum true true true = refl
denied_sum true true false = refl
denied_sum true false true = refl
denied_sum true false false = refl
denied_sum false true true = refl
denied_sum false true false = refl
denied_sum false false true = refl
denied_sum false false false = refl

pub want_of_absent : (cfg : Cfg) (access : AccessKind) → want_of (Fault (fault_code cfg access causes.Absent)) ≡ wants.Absent
want_of_absent cfg access = absent_sum (is_write access.op) access.user (is_fetch access.op && (smep cfg || nxe cfg))

pub want_of_reserved : (cfg : Cfg) (access : AccessKind) → want_of (Fault (fault_code cfg access causes.Reserved)) ≡ wants.Reserved
want_of_reserved cfg access = reserved_sum (is_write access.op) access.user (is_fetch access.op && (smep cfg || nxe cfg))

pub want_of_denied : (cfg : Cfg) (access : AccessKind) → want_of (Fault (fault_code cfg access causes.Denied)) ≡ wants.Leaf
want_of_denied cfg access = denied_sum (is_write access.op) access.user (is_fetch access.op && (smep cfg || nxe cfg))
