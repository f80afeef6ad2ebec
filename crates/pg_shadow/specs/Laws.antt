-- Laws of what is kept.
use Rattle.std.specs.Prelude.{◌≡◌, ℕ, ◌≤◌, Bool, true}
use Rattle.pg_entry.specs.declared.Cfg.{Cfg}
use Rattle.pg_entry.specs.declared.Kind.TheVariants.{Table, Leaf}
use Rattle.pg_entry.specs.declared.Level.{Level}
use Rattle.pg_entry.specs.Kinds.{kind_of}
use Rattle.pg_event.specs.Invalidation.{level_shift}
use Rattle.pg_shadow.specs.Caches.{is_table_level, is_page_shift, IsBlock}

-- a table that an entry refers to: of a level whose entries do so, and within MAXPHYADDR
pub record IsTableOf (m : ℕ) (level : Level) (addr : ℕ) : Type 0 where
  pub refers : is_table_level level ≡ true
  pub block : IsBlock m 12 addr

-- a page that an entry maps: of the size that its level gives, and within MAXPHYADDR
pub record IsPageOf (m : ℕ) (level : Level) (shift frame : ℕ) : Type 0 where
  pub shift_is : shift ≡ level_shift level
  pub size : is_page_shift shift ≡ true
  pub block : IsBlock m shift frame

-- what an entry refers to or maps may be kept
pub record EntriesMayBeKept : Type 0 where
  pub tables : (cfg : Cfg) (level : Level) (entry addr : ℕ) → 36 ≤ cfg.m →
      kind_of cfg level entry ≡ Table addr → IsTableOf cfg.m level addr
  pub leaves : (cfg : Cfg) (level : Level) (entry frame shift : ℕ) (global_bit : Bool) →
      36 ≤ cfg.m → kind_of cfg level entry ≡ Leaf frame shift global_bit →
      IsPageOf cfg.m level shift frame
