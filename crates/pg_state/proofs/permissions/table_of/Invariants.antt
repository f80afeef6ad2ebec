use Rattle.std.proofs.Common.{◌≡◌, ◌<◌, ℕ, length, false}
use Rattle.std.specs.Prelude.{slice_index_or}
use Rattle.pg_entry.specs.Permission.{is_allowed}
use Rattle.pg_state.specs.Permissions.{rights_at, kind_at}
use Rattle.pg_state.proofs.permissions.table_of.Given as goal

abbrev pub invariant-loop-place : goal.invariant-loop-place
invariant-loop-place l =
    (length l.table ≡ 128)
    × ((m : ℕ) → m < l.place → slice_index_or l.table m false ≡ is_allowed l.fn.cfg (rights_at m) (kind_at m))
