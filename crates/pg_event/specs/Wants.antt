-- What an access wants of the entry that it reads last.
use Rattle.std.specs.Prelude.{Bool, true, false, not, ◌||◌, if◌then◌else◌}
use Rattle.pg_entry.specs.declared.Kind.{Kind}
use Rattle.pg_entry.specs.declared.Kind.TheVariants as kinds
use Rattle.pg_entry.specs.declared.Cfg.{Cfg}
use Rattle.pg_entry.specs.declared.Rights.{Rights}
use Rattle.pg_entry.specs.declared.AccessKind.{AccessKind}
use Rattle.pg_entry.specs.Bits.{has_bit}
use Rattle.pg_entry.specs.Permission.{is_allowed}
use Rattle.pg_event.specs.declared.event.Outcome.{Outcome}
use Rattle.pg_event.specs.declared.event.Outcome.TheVariants.{Page, Fault}
use Rattle.pg_event.specs.declared.event.Want.{Want}
use Rattle.pg_event.specs.declared.event.Want.TheVariants as wants

-- what the last value of an access must be
abbrev pub want_of : Outcome → Want
want_of (Page page) = wants.Leaf
want_of (Fault code) =
    if not (has_bit code 0) then wants.Absent else
    if has_bit code 3 then wants.Reserved else wants.Leaf

abbrev pub is_table : Kind → Bool
is_table (kinds.Table addr) = true
is_table (kinds.Leaf frame shift global_bit) = false
is_table kinds.Absent = false
is_table kinds.Reserved = false

abbrev pub is_leaf : Kind → Bool
is_leaf (kinds.Table addr) = false
is_leaf (kinds.Leaf frame shift global_bit) = true
is_leaf kinds.Absent = false
is_leaf kinds.Reserved = false

abbrev pub is_absent : Kind → Bool
is_absent (kinds.Table addr) = false
is_absent (kinds.Leaf frame shift global_bit) = false
is_absent kinds.Absent = true
is_absent kinds.Reserved = false

abbrev pub has_reserved : Kind → Bool
has_reserved (kinds.Table addr) = false
has_reserved (kinds.Leaf frame shift global_bit) = false
has_reserved kinds.Absent = false
has_reserved kinds.Reserved = true

abbrev pub is_wanted : Want → Kind → Bool
is_wanted wants.Leaf kind = is_leaf kind
is_wanted wants.Absent kind = is_absent kind
is_wanted wants.Reserved kind = has_reserved kind
is_wanted wants.Present kind = is_table kind || is_leaf kind

-- whether the entry that is read last is used, and not only looked at: a leaf that is wanted is
abbrev pub uses_last : Want → Bool
uses_last wants.Leaf = true
uses_last wants.Absent = false
uses_last wants.Reserved = false
uses_last wants.Present = false

-- whether the dirty flag may be set for an access: in a leaf, whose rights allow it
abbrev pub may_dirty : Cfg → AccessKind → Rights → Kind → Bool
may_dirty cfg kind rights (kinds.Leaf frame shift global_bit) = is_allowed cfg rights kind
may_dirty cfg kind rights (kinds.Table addr) = false
may_dirty cfg kind rights kinds.Absent = false
may_dirty cfg kind rights kinds.Reserved = false
