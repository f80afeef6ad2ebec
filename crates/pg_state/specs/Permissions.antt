-- A table of what the rights of walks allow.
use Rattle.std.specs.Prelude.{◌≡◌, ◌+◌, ◌*◌, ◌/◌, ◌%◌, ◌==◌, ℕ, Bool, false, List, length}
use Rattle.std.specs.Prelude.{if◌then◌else◌, slice_index_or}
use Rattle.pg_entry.specs.declared.Cfg.{Cfg}
use Rattle.pg_entry.specs.declared.Rights.{Rights}
use Rattle.pg_entry.specs.declared.AccessKind.{AccessKind}
use Rattle.pg_entry.specs.declared.Op.{Op}
use Rattle.pg_entry.specs.declared.Op.TheVariants.{Read, Write, Fetch}
use Rattle.pg_entry.specs.Permission.{if_set, is_allowed}

-- the number of an operation
abbrev pub op_number : Op → ℕ
op_number Read = 0
op_number Write = 1
op_number Fetch = 2

-- the place of some rights and a kind of access
abbrev pub place_of : Rights → AccessKind → ℕ
place_of rights kind =
    if_set rights.write 1 + if_set rights.user 2 + if_set rights.xd 4
    + 8 * op_number kind.op + if_set kind.user 32 + if_set kind.ac 64

-- the rights of a place
abbrev pub rights_at : ℕ → Rights
rights_at place = record {
  write = place % 2 == 1;
  user = place / 2 % 2 == 1;
  xd = place / 4 % 2 == 1;
}

-- the operation of a place
abbrev pub op_at : ℕ → Op
op_at place =
    if place / 8 % 4 == 0 then Read else if place / 8 % 4 == 1 then Write else Fetch

-- the kind of access of a place
abbrev pub kind_at : ℕ → AccessKind
kind_at place = record {
  op = op_at place;
  user = place / 32 % 2 == 1;
  ac = place / 64 % 2 == 1;
}

-- the table tells of all rights and kinds of access what is allowed
pub record IsTable (cfg : Cfg) (table : List Bool) : Type 0 where
  pub length : length table ≡ 128
  pub tells :
      (rights : Rights) (kind : AccessKind) →
      slice_index_or table (place_of rights kind) false ≡ is_allowed cfg rights kind
