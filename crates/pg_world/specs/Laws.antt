-- Laws of recordings.
use Rattle.std.specs.Prelude.{◌≡◌, ℕ, zero, suc, ◌*◌, ◌≤◌, true, List, []}
use Rattle.std.specs.Prelude.{◌++◌, length, take}
use Rattle.pg_entry.specs.Kinds.{table_of}
use Rattle.pg_event.specs.declared.event.Event.{Event}
use Rattle.pg_event.specs.Spelling.{IsHead}
use Rattle.pg_world.specs.declared.receipt.Receipt.{Receipt}
use Rattle.pg_world.specs.declared.walk.LevelRead.TheVariants.{Assisted, Entry}
use Rattle.pg_world.specs.declared.walk.Walk.{Walk}
use Rattle.pg_world.specs.Recording.{Recording, segment_of, sealed_count, with_event}
use Rattle.pg_world.specs.Walks.{is_table_address, address_of, word_now, found_in}

-- so many segments, one after another
abbrev pub joined_segments : Recording → ℕ → List Event
joined_segments r zero = []
joined_segments r (suc k) = joined_segments r k ++ segment_of r k

abbrev pub SegmentsBeginTheEvents : Type 0
SegmentsBeginTheEvents =
    (r : Recording) (k : ℕ) → joined_segments r k ≡ take (k * r.head.segment) r.events

abbrev pub FinishedSegmentsAreTheEvents : Type 0
FinishedSegmentsAreTheEvents = (r : Recording) → IsHead r.head → r.finished ≡ true →
    joined_segments r (sealed_count r) ≡ r.events

-- what an entry or CR3 refers to is the address of a table
abbrev pub TablesHaveAddresses : Type 0
TablesHaveAddresses = (m value : ℕ) → 12 ≤ m → is_table_address m (table_of m value) ≡ true

-- after the assist that a read records, the same read uses the entry
abbrev pub AnAssistIsEnough : Type 0
AnAssistIsEnough = (r : Recording) (p : ℕ) (walk : Walk) (receipt : Receipt) → IsHead r.head →
    found_in r p walk ≡ Assisted receipt →
    let after = with_event r receipt.event in
    found_in after p walk ≡ Entry (word_now after.events (address_of walk)) (length after.events)
