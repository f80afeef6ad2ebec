-- What a chain of tests says where it finds no reason to be stuck, and where it finds one.
use Rattle.std.proofs.Common.{◌≡◌, ℕ, Bool, true, false, not, if◌then◌else◌, Option, Some, None, refl, ◌⊎◌, inl, inr}
use Rattle.pg_entry.specs.declared.Kind.{Kind}
use Rattle.pg_entry.specs.declared.Kind.TheVariants.{Absent, Reserved, Table, Leaf}
use Rattle.pg_event.specs.declared.event.Malformed.{Malformed}
use Rattle.pg_event.specs.Wants.{is_table, is_leaf}
use Rattle.pg_machine.specs.declared.stuck.Stuck.{Stuck}
use Rattle.pg_machine.specs.declared.stuck.Stuck.TheVariants as stucks
use Rattle.pg_machine.specs.Stepping.{unless_kind, unless_malformed}

pub guard_none : (b : Bool) (e : Stuck) (rest : Option Stuck) → (if not b then Some e else rest) ≡ None → (b ≡ true) × (rest ≡ None)
guard_none true e rest h = (refl, h)
guard_none false e rest h = cc

pub guard_some : (b : Bool) (e d : Stuck) (rest : Option Stuck) → (if not b then Some e else rest) ≡ Some d → ((b ≡ false) × (e ≡ d)) ⊎ ((b ≡ true) × (rest ≡ Some d))
guard_some true e d rest h = inr (refl, h)
guard_some false e d rest h = let same : e ≡ d = cc in inl (refl, same)

pub kind_none : (o : Option Stuck) (right : Bool) → unless_kind o right ≡ None → (o ≡ None) × (right ≡ true)
kind_none None true h = (refl, refl)
kind_none None false h = cc
kind_none (Some stuck) right h = cc

pub kind_some : (o : Option Stuck) (right : Bool) (d : Stuck) → unless_kind o right ≡ Some d → (o ≡ Some d) ⊎ ((o ≡ None) × (right ≡ false) × (stucks.Kind ≡ d))
kind_some None true d h = cc
kind_some None false d h = let same : stucks.Kind ≡ d = cc in inr (refl, refl, same)
kind_some (Some stuck) right d h = inl h

pub malformed_none : (o : Option Malformed) (stuck : Option Stuck) → unless_malformed o stuck ≡ None → (o ≡ None) × (stuck ≡ None)
malformed_none None stuck h = (refl, h)
malformed_none (Some rule) stuck h = cc

pub malformed_some : (o : Option Malformed) (stuck : Option Stuck) (d : Stuck) → unless_malformed o stuck ≡ Some d → ((rule : Malformed) × (o ≡ Some rule) × (stucks.Malformed rule ≡ d)) ⊎ ((o ≡ None) × (stuck ≡ Some d))
malformed_some None stuck d h = inr (refl, h)
malformed_some (Some rule) stuck d h = let same : stucks.Malformed rule ≡ d = cc in inl (rule, refl, same)

pub choice_none : (b : Bool) (e : Stuck) → (if b then None else Some e) ≡ None → b ≡ true
choice_none true e h = refl
choice_none false e h = cc

pub choice_some : (b : Bool) (e d : Stuck) → (if b then None else Some e) ≡ Some d → (b ≡ false) × (e ≡ d)
choice_some true e d h = cc
choice_some false e d h = let same : e ≡ d = cc in (refl, same)

-- what kind an entry is
pub table_kind : (k : Kind) → is_table k ≡ true → (addr : ℕ) × (k ≡ Table addr)
table_kind Absent h = cc
table_kind Reserved h = cc
table_kind (Table addr) h = (addr, refl)
table_kind (Leaf frame shift global) h = cc

pub no_table_kind : (k : Kind) → is_table k ≡ false → (addr : ℕ) → k ≡ Table addr → ⊥
no_table_kind Absent h addr e = cc
no_table_kind Reserved h addr e = cc
no_table_kind (Table at) h addr e = cc
no_table_kind (Leaf frame shift global) h addr e = cc

pub leaf_kind : (k : Kind) → is_leaf k ≡ true → (frame shift : ℕ) × (global : Bool) × (k ≡ Leaf frame shift global)
leaf_kind Absent h = cc
leaf_kind Reserved h = cc
leaf_kind (Table addr) h = cc
leaf_kind (Leaf frame shift global) h = (frame, shift, global, refl)

pub no_leaf_kind : (k : Kind) → is_leaf k ≡ false → (frame shift : ℕ) (global : Bool) → k ≡ Leaf frame shift global → ⊥
no_leaf_kind Absent h frame shift global e = cc
no_leaf_kind Reserved h frame shift global e = cc
no_leaf_kind (Table addr) h frame shift global e = cc
no_leaf_kind (Leaf f s g) h frame shift global e = cc
