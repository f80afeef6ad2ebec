-- What turns and core runs leave alone.
use Rattle.std.specs.Prelude.{◌≡◌, ℕ, List, length, Some, slice_get}
use Rattle.pg_world.specs.Recording.{Recording}
use Rattle.pg_guest.specs.declared.advance.Advance.{Advance}
use Rattle.pg_guest.specs.Turn.{Processor, Turned, IsTurn}
use Rattle.pg_guest.specs.CoreRun.{IsCoreRun}

-- of a record its settings, its segments given out and whether it is finished stay, and of a
-- processor its instructions and its MAXPHYADDR
pub record Leaves (old new : Recording) (x y : Processor) : Type 0 where
  pub head : new.head ≡ old.head
  pub taken : new.taken ≡ old.taken
  pub finished : new.finished ≡ old.finished
  pub instructions : y.instructions ≡ x.instructions
  pub width : y.caches.width ≡ x.caches.width

abbrev pub TurnsLeave : Type 0
TurnsLeave = (p : ℕ) (r : Recording) (x : Processor) (t : Turned) →
    IsTurn p r x t → Leaves r t.world x t.processor

-- what `Leaves` says of one processor holds of each, and they stay as many
pub record LeaveAll (old new : Recording) (xs ys : List Processor) : Type 0 where
  pub head : new.head ≡ old.head
  pub taken : new.taken ≡ old.taken
  pub finished : new.finished ≡ old.finished
  pub count : length ys ≡ length xs
  pub each : (p : ℕ) (x y : Processor) → slice_get xs p ≡ Some x → slice_get ys p ≡ Some y →
      (y.instructions ≡ x.instructions) × (y.caches.width ≡ x.caches.width)

abbrev pub CoreRunsLeave : Type 0
CoreRunsLeave = (r : Recording) (xs : List Processor) (ps : List ℕ) (answers : List Advance)
    (end : Recording) (ys : List Processor) →
    IsCoreRun r xs ps answers end ys → LeaveAll r end xs ys
