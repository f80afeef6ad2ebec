-- Which moments lead a walk from the root to a table (Intel SDM, vol. 3, 4.5 and 4.10.3).
use Rattle.std.specs.Prelude.{◌≡◌, ℕ, ◌≤◌, true, List, [], ◌∷◌}
use Rattle.pg_entry.specs.declared.Level.{Level}
use Rattle.pg_entry.specs.declared.Level.TheVariants.{Four}
use Rattle.pg_entry.specs.Kinds.{kind_of, table_of}
use Rattle.pg_entry.specs.Permission.{joined}
use Rattle.pg_event.specs.declared.event.Event.{Event}
use Rattle.pg_event.specs.declared.walk.Parent.{Parent}
use Rattle.pg_event.specs.Heads.{Head}
use Rattle.pg_event.specs.Values.{mem_at, control_at}
use Rattle.pg_event.specs.Invalidation.{structure_key}
use Rattle.pg_event.specs.Walk.{entry_address, below, root_of}
use Rattle.pg_event.specs.Wants.{is_table}
use Rattle.pg_event.specs.Witness.{structure_survives}
use Rattle.pg_machine.specs.Machine.{may_cache}

-- the entry that a level has at moment w in a table (4.5)
abbrev pub entry_at : List Event → ℕ → ℕ → Level → Parent → ℕ
entry_at events la w level from = mem_at events w (entry_address from.table level la)

-- the table that an entry refers to (4.5), with the rights down to it (4.6)
abbrev pub table_by : ℕ → Parent → ℕ → Parent
table_by m from entry = record { table = table_of m entry; rights = joined from.rights entry }

-- who walks: a processor, for an address, under a PCID
pub record Walker : Type 0 where
  pub p : ℕ
  pub la : ℕ
  pub pcid : ℕ

-- the first of the moments, or where there is none the one that comes next
abbrev pub first_or : ℕ → List ℕ → ℕ
first_or w [] = w
first_or w (x ∷ xs) = x

-- the entry that is read at moment x refers to a table and may be cached (4.8), and the
-- paging-structure-cache entry survives to y (4.10.4.1)
pub record IsLink (head : Head) (events : List Event) (v : Walker) (y : ℕ) (level : Level)
    (from : Parent) (x : ℕ) : Type 0 where
  pub low : x ≤ y
  pub alike : (control_at head events v.p x).pcid ≡ v.pcid
  pub table : is_table (kind_of head.cfg level (entry_at events v.la x level from)) ≡ true
  pub cached : may_cache head.version (entry_at events v.la x level from) ≡ true
  pub kept : structure_survives head events v.p (structure_key v.pcid level v.la) x y ≡ true

-- the moments lead from one table at a level to another, each structure entry surviving to the next
-- reading and the last to w
abbrev pub IsChain :
    Head → List Event → Walker → ℕ → Level → Parent → List ℕ → Level → Parent → Type 0
IsChain head events v w level from [] at to = (level ≡ at) × (from ≡ to)
IsChain head events v w level from (x ∷ xs) at to =
    IsLink head events v (first_or w xs) level from x
    × IsChain head events v w (below level)
    (table_by head.cfg.m from (entry_at events v.la x level from)) xs at to

-- the moments lead from the root at the first of them to a table at a level
abbrev pub IsWayFromRoot :
    Head → List Event → Walker → ℕ → List ℕ → Level → Parent → Type 0
IsWayFromRoot head events v w ws level from =
    let start = control_at head events v.p (first_or w ws) in
    (start.pcid ≡ v.pcid) × IsChain head events v w Four (root_of start) ws level from
