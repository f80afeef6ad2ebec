-- What a word may hold while a processor stands between two of its events, in whichever order.
use Rattle.std.specs.Prelude.{◌≡◌, ℕ, ◌<◌, ◌≤◌, ◌⊎◌, Bool, List, Some, slice_get}
use Rattle.std.specs.Option.{option_map}
use Rattle.pg_entry.specs.Kinds.{marked}
use Rattle.pg_event.specs.declared.event.Event.{Event}
use Rattle.pg_event.specs.declared.event.Event.TheVariants.{Write, Assist}
use Rattle.pg_event.specs.Form.{processor_of, says_dirty}
use Rattle.pg_machine.specs.Machine.{IsIn}
use Rattle.pg_span_run.specs.Orders.{Spanned, MustPrecede}
use Rattle.pg_span_refute.specs.declared.edge.Edge.{Edge}
use Rattle.pg_span_refute.specs.declared.slot.Slot.{Slot}

-- event j writes the value to the word
abbrev pub Writes : List Event → ℕ → ℕ → ℕ → Type 0
Writes events a v j = (q : ℕ) × (slice_get events j ≡ Some (Write q a v))

-- event j writes to the word
abbrev pub WritesTo : List Event → ℕ → ℕ → Type 0
WritesTo events a j = (v : ℕ) × Writes events a v j

-- event j is a write
abbrev pub IsWrite : List Event → ℕ → Type 0
IsWrite events j = (a : ℕ) × WritesTo events a j

-- event j is of processor p
abbrev pub IsOwn : List Event → ℕ → ℕ → Type 0
IsOwn events p j = option_map processor_of (slice_get events j) ≡ Some p

-- event j is supposed to come before an event of the processor that has come
pub record IsSupposedPast (s : Spanned) (slot : Slot) (j : ℕ) : Type 0 where
  pub edge : Edge
  pub there : IsIn edge slot.edges.now
  pub first : edge.first ≡ j
  pub came : edge.second < slot.next
  pub own : IsOwn s.events slot.p edge.second

-- event j is supposed to come after an event of the processor that has not come
pub record IsSupposedLater (s : Spanned) (slot : Slot) (j : ℕ) : Type 0 where
  pub edge : Edge
  pub there : IsIn edge slot.edges.now
  pub second : edge.second ≡ j
  pub waits : slot.next ≤ edge.first
  pub own : IsOwn s.events slot.p edge.first

-- event j has come before the slot in every order that is as supposed
abbrev pub IsPast : Spanned → Slot → ℕ → Type 0
IsPast s slot j =
    (j < slot.ended) ⊎ (((j < slot.next) × IsOwn s.events slot.p j) ⊎ IsSupposedPast s slot j)

-- event j comes after the slot in every order that is as supposed
abbrev pub IsToCome : Spanned → Slot → ℕ → Type 0
IsToCome s slot j =
    (j ≡ slot.next) ⊎ (MustPrecede s slot.next j ⊎ IsSupposedLater s slot j)

-- a write that may have come, and no write that has come must follow it
pub record MayBeLast (s : Spanned) (slot : Slot) (a v j : ℕ) : Type 0 where
  pub writes : Writes s.events a v j
  pub came : IsToCome s slot j → ⊥
  pub last : (i : ℕ) → WritesTo s.events a i → IsPast s slot i → MustPrecede s j i → ⊥

-- the word may be unwritten: no write to it has come
abbrev pub MayBeUnwritten : Spanned → Slot → ℕ → Type 0
MayBeUnwritten s slot a = (i : ℕ) → WritesTo s.events a i → IsPast s slot i → ⊥

-- the value is what the last write may have left in the word
abbrev pub MayBeLeft : Spanned → Slot → ℕ → ℕ → Type 0
MayBeLeft s slot a v = ((j : ℕ) × MayBeLast s slot a v j) ⊎ ((v ≡ 0) × MayBeUnwritten s slot a)

-- an event is an assist of the word: it sets A, and D beside it or not
abbrev pub SetsFlagsOf : ℕ → Bool → Event → Type 0
SetsFlagsOf a with_dirty e = (p flags la : ℕ) × (moments : List ℕ)
    × (e ≡ Assist p flags la a moments) × (says_dirty flags ≡ with_dirty)

-- event j is an assist of the word
abbrev pub SetsFlags : List Event → ℕ → Bool → ℕ → Type 0
SetsFlags events a with_dirty j =
    (e : Event) × (slice_get events j ≡ Some e) × SetsFlagsOf a with_dirty e

-- event j may have set flags in the word since write m
pub record MayHaveSet (s : Spanned) (slot : Slot) (a : ℕ) (with_dirty : Bool) (m j : ℕ) :
    Type 0 where
  pub sets : SetsFlags s.events a with_dirty j
  pub came : IsToCome s slot j → ⊥
  pub behind : MustPrecede s j m → ⊥

-- assists may have set flags in what the last write has left. An unwritten word may have them
-- without an assist: it is absent all the same
abbrev pub MayBeMarked : Spanned → Slot → ℕ → ℕ → Bool → Type 0
MayBeMarked s slot a v with_dirty =
    ((m : ℕ) × MayBeLast s slot a v m × (j : ℕ) × MayHaveSet s slot a with_dirty m j)
    ⊎ ((v ≡ 0) × MayBeUnwritten s slot a)

-- the word may hold the value in the slot: what a write left, or that with the flags that assists
-- may have set since (Intel SDM, vol. 3, 4.8)
abbrev pub MayHold : Spanned → Slot → ℕ → ℕ → Type 0
MayHold s slot a v =
    MayBeLeft s slot a v
    ⊎ ((u : ℕ) × (with_dirty : Bool) × MayBeMarked s slot a u with_dirty
    × (v ≡ marked with_dirty u))
