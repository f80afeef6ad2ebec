-- What a processor may have cached for the address of an event, slot by slot, and that it does not
-- give the event (Intel SDM, vol. 3, 4.10.2 to 4.10.4).
use Rattle.std.specs.Prelude.{◌≡◌, ℕ, zero, suc, ◌⊎◌, List, [], max, Some}
use Rattle.std.specs.Prelude.{slice_get}
use Rattle.pg_event.specs.declared.control.Control.{Control}
use Rattle.pg_event.specs.declared.event.Event.{Event}
use Rattle.pg_event.specs.Form.{processor_of}
use Rattle.pg_event.specs.Values.{controlled, started}
use Rattle.pg_span_run.specs.Orders.{Spanned, ended_before}
use Rattle.pg_span_refute.specs.declared.edge.Edge.{Edge}
use Rattle.pg_span_refute.specs.declared.slot.Slot.{Slot}
use Rattle.pg_span_refute.specs.Caches.{Known, Grows, IsFilled, IsLeft, IsNotGiven}
use Rattle.pg_span_refute.specs.Memory.{IsOwn}
use Rattle.pg_span_refute.specs.Orders.{NamesWalk}

-- the slot of a processor before an event, in the orders that are as supposed
pub record IsSlot (edges : List Edge) (p next : ℕ) (slot : Slot) : Type 0 where
  pub same_p : slot.p ≡ p
  pub same_next : slot.next ≡ next
  pub same_edges : slot.edges.now ≡ edges

-- nothing is cached at the start
abbrev pub nothing_cached : Control → Known
nothing_cached control = record { control = control; tables = []; translations = [] }

-- in the slot before an event of the processor walks cache what they may, and the event leaves what
-- it need not drop; what had ended when it began has come
pub record Passes (s : Spanned) (la : ℕ) (slot : Slot) (k : Known) (ended : ℕ) (l : Known) :
    Type 0 where
  pub event : Event
  pub there : slice_get s.events slot.next ≡ Some event
  pub own : processor_of event ≡ slot.p
  pub filled : Known
  pub grows : Grows k filled
  pub fills : IsFilled s slot la filled
  pub left : IsLeft s.head.cfg.rules la event filled l
  pub control : l.control ≡ controlled s.head.cfg.m (processor_of event) filled.control event
  pub come : ended ≡ max slot.ended (ended_before s slot.next)

-- what the processor may have cached for the address once its events before this one have come, and
-- how many events, the first as they ended, have come by then
unfoldable pub MayHaveCached : Spanned → List Edge → ℕ → ℕ → ℕ → ℕ → Known → Type 0
MayHaveCached s edges p la zero ended k =
    (ended ≡ 0) × (k ≡ nothing_cached (started s.head.cfg.m (slice_get s.head.processors p)))
MayHaveCached s edges p la (suc n) ended l =
    ((IsOwn s.events p n → ⊥) × MayHaveCached s edges p la n ended l)
    ⊎ ((k : Known) × (slot : Slot) × IsSlot edges p n slot
    × MayHaveCached s edges p la n slot.ended k × Passes s la slot k ended l)

-- nothing that the processor may have cached or may read gives event i, in the orders that are as
-- supposed
pub record HasNoWitness (s : Spanned) (edges : List Edge) (i : ℕ) : Type 0 where
  pub event : Event
  pub there : slice_get s.events i ≡ Some event
  pub la : ℕ
  pub walk : NamesWalk la event
  pub slot : Slot
  pub before : IsSlot edges (processor_of event) i slot
  pub cached : Known
  pub may : MayHaveCached s edges (processor_of event) la i slot.ended cached
  pub filled : Known
  pub grows : Grows cached filled
  pub fills : IsFilled s slot la filled
  pub at : Slot
  pub at_event : IsSlot edges (processor_of event) i at
  pub come : at.ended ≡ max slot.ended (ended_before s i)
  pub none : IsNotGiven s at la filled event
