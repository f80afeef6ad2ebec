-- Filling the structure entries of a walk that reads memory as it is.
use Rattle.std.proofs.Common.{◌≡◌, ℕ, Bool, [], ◌∷◌, refl, ap, sym, true, false, cond, inl, not}
use Rattle.std.proofs.lemmas.Bool.{eq-eqb}
use Rattle.pg_entry.specs.declared.Level.{Level}
use Rattle.pg_entry.specs.declared.Level.TheVariants.{Four, Three, Two, One}
use Rattle.pg_entry.specs.declared.Kind.{Kind}
use Rattle.pg_entry.specs.declared.Kind.TheVariants as kinds
use Rattle.pg_entry.specs.declared.Cfg.{Cfg}
use Rattle.pg_entry.specs.Bits.{has_bit}
use Rattle.pg_entry.specs.Kinds.{kind_of, is_reserved, table_of}
use Rattle.pg_entry.specs.Permission.{joined}
use Rattle.pg_event.specs.Heads.{Head}
use Rattle.pg_event.specs.Walk.{Reading, below, entry_address, root_of}
use Rattle.pg_event.specs.Wants.{is_table}
use Rattle.pg_event.specs.declared.walk.Parent.{Parent}
use Rattle.pg_machine.specs.Machine.{State, MayRead, IsWalkable, entry_now, may_cache, with_table}
use Rattle.pg_run_of.specs.Plan.{table_fill}
use Rattle.pg_run_of.proofs.Paths.{Leads}

pub a_table : (k : Kind) → is_table k ≡ true → (addr : ℕ) × (k ≡ kinds.Table addr)
a_table kinds.Absent h = absurd (cc)
a_table kinds.Reserved h = absurd (cc)
a_table (kinds.Table addr) h = (addr, refl)
a_table (kinds.Leaf frame shift global_bit) h = absurd (cc)

-- level 1 has no tables
chosen_leaf : (b c : Bool) (frame shift : ℕ) (g : Bool) → is_table (cond b kinds.Absent (cond c kinds.Reserved (kinds.Leaf frame shift g))) ≡ true → ⊥
chosen_leaf true c frame shift g h = cc
chosen_leaf false true frame shift g h = cc
chosen_leaf false false frame shift g h = cc

pub no_table_below : (cfg : Cfg) (e : ℕ) → is_table (kind_of cfg One e) ≡ true → ⊥
no_table_below cfg e h = chosen_leaf (not (has_bit e 0)) (is_reserved cfg One e) (table_of cfg.m e) 12 (has_bit e 8) h

-- one fill of a table
pub fill : (head : Head) (s : State) (p la : ℕ) → IsWalkable head p la → (level : Level) (from : Parent) → MayRead s p la level from →
    may_cache head.version (entry_now s la level from) ≡ true → is_table (kind_of head.cfg level (entry_now s la level from)) ≡ true →
    Leads head s (table_fill p la level from ∷ []) (with_table head s p la level from)
fill head s p la inside Four from may cached h =
    let back : with_table head s p la Four (root_of (s.control p)) ≡ with_table head s p la Four from = ap (with_table head s p la Four) (sym may) in
    let found = a_table _ (rw may at h) in
    ((found.0, (inside, refl, rw may at cached, found.1)), back)
fill head s p la inside Three from may cached h =
    let found = a_table _ h in ((found.0, (inside, may, cached, found.1)), refl)
fill head s p la inside Two from may cached h =
    let found = a_table _ h in ((found.0, (inside, may, cached, found.1)), refl)
fill head s p la inside One from may cached h = absurd (no_table_below head.cfg _ h)

-- the table's parent at the next level
abbrev pub next : Head → State → ℕ → Level → Parent → Parent
next head s la level from = record { table = table_of head.cfg.m (entry_now s la level from); rights = joined from.rights (entry_now s la level from) }

-- after the fill the walk may go on one level below
pub may_go_on : (head : Head) (s : State) (p la : ℕ) (level : Level) (from : Parent) → is_table (kind_of head.cfg level (entry_now s la level from)) ≡ true →
    MayRead (with_table head s p la level from) p la (below level) (next head s la level from)
may_go_on head s p la Four from h = rw (eq-eqb p p refl) (inl refl)
may_go_on head s p la Three from h = rw (eq-eqb p p refl) (inl refl)
may_go_on head s p la Two from h = rw (eq-eqb p p refl) (inl refl)
may_go_on head s p la One from h = absurd (no_table_below head.cfg _ h)

-- the state can read r now in this table, as the end of a walk
pub record Reads (s : State) (p la : ℕ) (from : Parent) (r : Reading) : Type 0 where
  pub may : MayRead s p la r.level from
  pub address : r.address ≡ entry_address from.table r.level la
  pub value : entry_now s la r.level from ≡ r.value
  pub rights : joined from.rights r.value ≡ r.rights
