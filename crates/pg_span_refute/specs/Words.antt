-- What words may hold in a slot, by the lists of their writes.
use Rattle.std.specs.Prelude.{◌≡◌, ◌⊎◌, ℕ, ◌<◌, Bool, List, length, Some, slice_get}
use Rattle.std.specs.List.{AllByRecursion}
use Rattle.pg_entry.specs.Kinds.{marked}
use Rattle.pg_event.specs.declared.event.Event.{Event}
use Rattle.pg_event.specs.declared.event.Event.TheVariants.{Write}
use Rattle.pg_machine.specs.Machine.{IsIn}
use Rattle.pg_span_run.specs.Orders.{Spanned, MustPrecede}
use Rattle.pg_span_refute.specs.declared.slot.Slot.{Slot}
use Rattle.pg_span_refute.specs.declared.words.Assisted.{Assisted}
use Rattle.pg_span_refute.specs.declared.words.Written.{Written}
use Rattle.pg_span_refute.specs.declared.words.Word.{Word}
use Rattle.pg_span_refute.specs.Memory.{Writes, IsPast, IsToCome, SetsFlags}

-- an event writes the value to the word
abbrev pub WritesValue : ℕ → ℕ → Event → Type 0
WritesValue a v e = (p : ℕ) × (e ≡ Write p a v)

-- these are the writes to a word
pub record AreWritesTo (events : List Event) (a : ℕ) (writes : List Written) : Type 0 where
  pub all : (v j : ℕ) → Writes events a v j → IsIn (record { number = j; value = v }) writes
  pub only : (w : Written) → IsIn w writes → Writes events a w.value w.number

-- the assists are of the first so many events
abbrev pub AreAssistsBelow : ℕ → List Assisted → Type 0
AreAssistsBelow count assists = (x : Assisted) → IsIn x assists → x.number < count

-- these are the assists of a word
pub record AreAssistsOf (events : List Event) (a : ℕ) (assists : List Assisted) : Type 0 where
  pub all : (with_dirty : Bool) (j : ℕ) → SetsFlags events a with_dirty j →
      IsIn (record { number = j; dirty = with_dirty }) assists
  pub below : AreAssistsBelow (length events) assists

-- a word has its writes and its assists
abbrev pub IsWordOf : List Event → Word → Type 0
IsWordOf events word =
    AreWritesTo events word.address word.writes.items
    × AreAssistsOf events word.address word.assists.items

-- each word has them
abbrev pub AreWordsOf : List Event → List Word → Type 0
AreWordsOf events words = AllByRecursion (IsWordOf events) words

-- the writes are of the first so many events
abbrev pub AreBelow : ℕ → List Written → Type 0
AreBelow count writes = (w : Written) → IsIn w writes → w.number < count

-- one of the writes must follow event j, and has come
pub record IsOverwritten (s : Spanned) (slot : Slot) (writes : List Written) (j : ℕ) : Type 0 where
  pub by : Written
  pub there : IsIn by writes
  pub past : IsPast s slot by.number
  pub follows : MustPrecede s j by.number

-- one of the writes has come
pub record IsWritten (s : Spanned) (slot : Slot) (writes : List Written) : Type 0 where
  pub by : Written
  pub there : IsIn by writes
  pub past : IsPast s slot by.number

-- the word stands at the place
pub record IsPlaceOf (words : List Word) (place a : ℕ) : Type 0 where
  pub word : Word
  pub there : slice_get words place ≡ Some word
  pub address : word.address ≡ a

-- what one list has is in another
abbrev pub AreAllIn : List ℕ → List ℕ → Type 0
AreAllIn xs ys = (x : ℕ) → IsIn x xs → IsIn x ys

-- a value, and what it is once assists set its flags
pub record IsMarkedIn (v : ℕ) (values : List ℕ) : Type 0 where
  pub plain : IsIn v values
  pub flagged : (with_dirty : Bool) → IsIn (marked with_dirty v) values

-- none of the assists, which set such flags, may have come between write m and the slot
abbrev pub IsNotSet : Spanned → Slot → List Assisted → ℕ → Bool → Type 0
IsNotSet s slot assists m with_dirty = (x : Assisted) → IsIn x assists → x.dirty ≡ with_dirty →
    IsToCome s slot x.number ⊎ MustPrecede s x.number m

-- the value of a write with such flags, where an assist that sets them may have come since
abbrev pub IsFlaggedIn : Spanned → Slot → List Assisted → Written → List ℕ → Bool → Type 0
IsFlaggedIn s slot assists w values with_dirty =
    IsNotSet s slot assists w.number with_dirty ⊎ IsIn (marked with_dirty w.value) values

-- the value of a write, and what it is once assists that may have come since set its flags
pub record IsHeldIn (s : Spanned) (slot : Slot) (assists : List Assisted) (w : Written)
    (values : List ℕ) : Type 0 where
  pub plain : IsIn w.value values
  pub flagged : (with_dirty : Bool) → IsFlaggedIn s slot assists w values with_dirty
