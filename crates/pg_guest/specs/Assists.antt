-- How many assists a run has, and how many events.
use Rattle.std.specs.Prelude.{ℕ, ◌*◌, ◌≤◌, Bool, true, false, List, count_by, length, sum_by}
use Rattle.pg_event.specs.declared.event.Event.{Event}
use Rattle.pg_event.specs.declared.event.Event.TheVariants.{Write, Access, Assist, MovCr3, Invlpg}
use Rattle.pg_event.specs.declared.event.Event.TheVariants.{Invpcid, MovCr4Pge}
use Rattle.pg_event.specs.Heads.{Head}
use Rattle.pg_world.specs.Recording.{Recording}
use Rattle.pg_guest.specs.declared.advance.Advance.{Advance}
use Rattle.pg_guest.specs.CoreRun.{IsCoreRun, unwritten}
use Rattle.pg_guest.specs.Turn.{Processor}

abbrev pub is_assist : Event → Bool
is_assist (Write p addr value) = false
is_assist (Access p flags la outcome moments) = false
is_assist (Assist p flags la word moments) = true
is_assist (MovCr3 p operand) = false
is_assist (Invlpg p la) = false
is_assist (Invpcid p kind pcid la) = false
is_assist (MovCr4Pge p on) = false

abbrev pub is_table_write : Event → Bool
is_table_write (Write p addr value) = true
is_table_write (Access p flags la outcome moments) = false
is_table_write (Assist p flags la word moments) = false
is_table_write (MovCr3 p operand) = false
is_table_write (Invlpg p la) = false
is_table_write (Invpcid p kind pcid la) = false
is_table_write (MovCr4Pge p on) = false

-- In every core run there are two assists at most for each table write: an assist sets A or D,
-- which was 0, in an entry that is present, and only a write clears them or makes an entry present
-- (Intel SDM, vol. 3, 4.8)
abbrev pub AssistsAreFew : Type 0
AssistsAreFew = (head : Head) (xs : List Processor) (ps : List ℕ) (answers : List Advance)
    (end : Recording) (ys : List Processor) →
    IsCoreRun (unwritten head) xs ps answers end ys →
    count_by is_assist end.events ≤ 2 * count_by is_table_write end.events

-- and any other event carries an instruction out, so there are three events at most for each
-- instruction of the processors
abbrev pub EventsAreFew : Type 0
EventsAreFew = (head : Head) (xs : List Processor) (ps : List ℕ) (answers : List Advance)
    (end : Recording) (ys : List Processor) →
    IsCoreRun (unwritten head) xs ps answers end ys →
    length end.events ≤ 3 * sum_by (λ x. length x.instructions) xs
