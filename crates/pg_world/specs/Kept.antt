-- What a world keeps true of its parts.
use Rattle.std.specs.Prelude.{◌≡◌, ℕ, ◌≤◌, false, None, List, length}
use Rattle.std.specs.List.{AllByRecursion}
use Rattle.pg_event.specs.declared.event.Event.{Event}
use Rattle.pg_event.specs.Form.{broken_rule}
use Rattle.pg_event.specs.Spelling.{FitsEvent, IsRecord}
use Rattle.pg_event.specs.Values.{mem_at}
use Rattle.pg_world.specs.Memory.{word_in}
use Rattle.pg_world.specs.Recording.{Recording, recorded, sealed_count}

-- what stands is a record, and only sealed segments were given out
pub record IsKept (r : Recording) : Type 0 where
  pub is_record : IsRecord (recorded r)
  pub taken : r.taken ≤ sealed_count r

-- and memory is what the events leave
pub record IsWorld (r : Recording) (words : List (ℕ × ℕ)) : Type 0 where
  pub kept : IsKept r
  pub replayed : (a : ℕ) → word_in words a ≡ mem_at r.events (length r.events) a

-- what is given out as a segment: events of the record, as many as a full segment has, and in a
-- finished record perhaps fewer
pub record IsSegment (r : Recording) (segment : List Event) : Type 0 where
  pub some : 1 ≤ length segment
  pub most : length segment ≤ r.head.segment
  pub full : r.finished ≡ false → length segment ≡ r.head.segment
  pub fits : AllByRecursion FitsEvent segment
  pub well : AllByRecursion (λ e. broken_rule r.head e ≡ None) segment
