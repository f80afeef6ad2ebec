-- The flags of an assist say the access that it serves, and whether it is dirty.
use Rattle.std.proofs.Common.{◌≡◌, ◌+◌, ◌*◌, Bool, true, false, refl}
use Rattle.pg_entry.specs.declared.Op.{Op}
use Rattle.pg_entry.specs.declared.Op.TheVariants as ops
use Rattle.pg_entry.specs.declared.AccessKind.{AccessKind}
use Rattle.pg_event.specs.Form.{access_kind, says_dirty, flags_of}
use Rattle.pg_event.specs.Spelling.{bit}

abbrev access_by : Op → Bool → Bool → AccessKind
access_by op user ac = record { op = op; user = user; ac = ac }

kind_by : (op : Op) (user ac with_dirty : Bool) → access_kind (flags_of (access_by op user ac) + 16 * bit with_dirty) ≡ access_by op user ac
kind_by ops.Read true true true = refl
kind_by ops.Read true true false = refl
kind_by ops.Read true false true = refl
kind_by ops.Read true false false = refl
kind_by ops.Read false true true = refl
kind_by ops.Read false true false = refl
kind_by ops.Read false false true = refl
kind_by ops.Read false false false = refl
kind_by ops.Write true true true = refl
kind_by ops.Write true true false = refl
kind_by ops.Write true false true = refl
kind_by ops.Write true false false = refl
kind_by ops.Write false true true = refl
kind_by ops.Write false true false = refl
kind_by ops.Write false false true = refl
kind_by ops.Write false false false = refl
kind_by ops.Fetch true true true = refl
kind_by ops.Fetch true true false = refl
kind_by ops.Fetch true false true = refl
kind_by ops.Fetch true false false = refl
kind_by ops.Fetch false true true = refl
kind_by ops.Fetch false true false = refl
kind_by ops.Fetch false false true = refl
kind_by ops.Fetch false false false = refl

dirty_by : (op : Op) (user ac with_dirty : Bool) → says_dirty (flags_of (access_by op user ac) + 16 * bit with_dirty) ≡ with_dirty
dirty_by ops.Read true true true = refl
dirty_by ops.Read true true false = refl
dirty_by ops.Read true false true = refl
dirty_by ops.Read true false false = refl
dirty_by ops.Read false true true = refl
dirty_by ops.Read false true false = refl
dirty_by ops.Read false false true = refl
dirty_by ops.Read false false false = refl
dirty_by ops.Write true true true = refl
dirty_by ops.Write true true false = refl
dirty_by ops.Write true false true = refl
dirty_by ops.Write true false false = refl
dirty_by ops.Write false true true = refl
dirty_by ops.Write false true false = refl
dirty_by ops.Write false false true = refl
dirty_by ops.Write false false false = refl
dirty_by ops.Fetch true true true = refl
dirty_by ops.Fetch true true false = refl
dirty_by ops.Fetch true false true = refl
dirty_by ops.Fetch true false false = refl
dirty_by ops.Fetch false true true = refl
dirty_by ops.Fetch false true false = refl
dirty_by ops.Fetch false false true = refl
dirty_by ops.Fetch false false false = refl

pub assist_kind : (kind : AccessKind) (with_dirty : Bool) → access_kind (flags_of kind + 16 * bit with_dirty) ≡ kind
assist_kind kind with_dirty = kind_by kind.op kind.user kind.ac with_dirty

pub assist_dirty : (kind : AccessKind) (with_dirty : Bool) → says_dirty (flags_of kind + 16 * bit with_dirty) ≡ with_dirty
assist_dirty kind with_dirty = dirty_by kind.op kind.user kind.ac with_dirty
