-- Runs of recorded processors, turn by turn.
use Rattle.std.specs.Prelude.{◌≡◌, ℕ, List, [], ◌∷◌, Some, false, slice_get, slice_set}
use Rattle.pg_event.specs.Heads.{Head}
use Rattle.pg_world.specs.Recording.{Recording}
use Rattle.pg_guest.specs.declared.advance.Advance.{Advance}
use Rattle.pg_guest.specs.Turn.{Processor, Turned, IsTurn}

-- a record before its first event
abbrev pub unwritten : Head → Recording
unwritten head = record { head = head; events = []; taken = 0; finished = false }

-- turns of these processors, by their numbers, give these answers, and lead from one record and
-- these processors to another record and the processors as they are then
abbrev pub IsCoreRun :
    Recording → List Processor → List ℕ → List Advance → Recording → List Processor → Type 0
IsCoreRun r xs [] answers end ys = (answers ≡ []) × (end ≡ r) × (ys ≡ xs)
IsCoreRun r xs (p ∷ ps) answers end ys =
    (x : Processor) × (t : Turned) × (others : List Advance)
    × (slice_get xs p ≡ Some x) × IsTurn p r x t × (answers ≡ t.answer ∷ others)
    × IsCoreRun t.world (slice_set xs p t.processor) ps others end ys
