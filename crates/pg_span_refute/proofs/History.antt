-- Runs of the machine from their latest step back, and how far they have come in an order.
use Rattle.std.proofs.Common.{◌≡◌, ℕ, suc, ◌<◌, List, [], ◌∷◌, length, ap, sym, ◌∙◌, arith, Some}
use Rattle.std.specs.Prelude.{slice_get}
use Rattle.std.specs.Option.{option_map}
use Rattle.pg_event.specs.declared.event.Event.{Event}
use Rattle.pg_event.specs.Form.{processor_of}
use Rattle.pg_event.specs.Heads.{Head}
use Rattle.pg_machine.specs.declared.step.Step.{Step}
use Rattle.pg_machine.specs.declared.step.Step.TheVariants.{Fill4, Fill3, Fill2, FillLeaf, Drop, Do}
use Rattle.pg_machine.specs.Machine.{State, start, after, MayTake}
use Rattle.pg_run_of.specs.Converse.{without_moments}
use Rattle.pg_span_run.specs.Orders.{Spanned, MustPrecede, StandsBefore, IsOrder}
use Rattle.pg_span_run.proofs.Places.{stands_once, some_same}
use Rattle.pg_span_run.proofs.Orders.{are_all}
use Rattle.pg_span_refute.specs.Memory.{IsOwn}

-- the state after steps, the latest first
abbrev pub state_after : Head → List Step → State
state_after head [] = start head
state_after head (x ∷ past) = after head (state_after head past) x

-- how many events they have
abbrev pub count : List Step → ℕ
count [] = 0
count (Fill4 p la ∷ past) = count past
count (Fill3 p la from ∷ past) = count past
count (Fill2 p la from ∷ past) = count past
count (FillLeaf p la level from ∷ past) = count past
count (Drop p member ∷ past) = count past
count (Do e ∷ past) = suc (count past)

-- an event of a run is the one at a place of an order, but for moments
pub record IsAt (s : Spanned) (order : List ℕ) (w : ℕ) (e : Event) : Type 0 where
  pub number : ℕ
  pub event : Event
  pub place : slice_get order w ≡ Some number
  pub there : slice_get s.events number ≡ Some event
  pub same : without_moments e ≡ without_moments event

-- each step could be taken, and the events are those of the order
abbrev pub Came : Spanned → List ℕ → List Step → Type 0
Came s order [] = Unit {0}
Came s order (Fill4 p la ∷ past) = Came s order past × MayTake s.head (state_after s.head past) (Fill4 p la)
Came s order (Fill3 p la from ∷ past) = Came s order past × MayTake s.head (state_after s.head past) (Fill3 p la from)
Came s order (Fill2 p la from ∷ past) = Came s order past × MayTake s.head (state_after s.head past) (Fill2 p la from)
Came s order (FillLeaf p la level from ∷ past) = Came s order past × MayTake s.head (state_after s.head past) (FillLeaf p la level from)
Came s order (Drop p member ∷ past) = Came s order past × MayTake s.head (state_after s.head past) (Drop p member)
Came s order (Do e ∷ past) = Came s order past × IsAt s order (count past) e

-- event j is one of the first w of the order
abbrev pub Before : List ℕ → ℕ → ℕ → Type 0
Before order w j = (k : ℕ) × (k < w) × (slice_get order k ≡ Some j)

-- the events of p that have come are those with numbers below this
pub record IsFront (s : Spanned) (p : ℕ) (order : List ℕ) (w next : ℕ) : Type 0 where
  pub below : (j : ℕ) → IsOwn s.events p j → Before order w j → j < next
  pub come : (j : ℕ) → IsOwn s.events p j → j < next → Before order w j

pub before_more : (order : List ℕ) (w j : ℕ) → Before order w j → Before order (suc w) j
before_more order w j h = let lt : h.0 < w = h.1 in (h.0, omega (arith, lt), h.2)

module _ (s : Spanned) (order : List ℕ) (is : IsOrder s order) where
  pub once : (a b j : ℕ) → slice_get order a ≡ Some j → slice_get order b ≡ Some j → a ≡ b
  once a b j = stands_once order (length s.events) (are_all s order is) a b j

  -- what stands before one that has come has come
  pub front_by : (w x j : ℕ) → Before order w j → StandsBefore order x j → Before order w x
  front_by w x j h b =
      let at : b.later ≡ h.0 = once b.later h.0 j b.second h.2 in
      let lt : h.0 < w = h.1 in
      (b.place, omega (arith, b.rises, at, lt), b.first)

  -- what must come before one that has come has come
  pub front : (w x j : ℕ) → Before order w j → MustPrecede s x j → Before order w x
  front w x j h must = front_by w x j h (is.keeps x j must)

  -- and what must come before the one that comes next
  pub front_next : (w x j : ℕ) → slice_get order w ≡ Some j → MustPrecede s x j → Before order w x
  front_next w x j here must =
      let b : StandsBefore order x j = is.keeps x j must in
      let at : b.later ≡ w = once b.later w j b.second here in
      (b.place, omega (arith, b.rises, at), b.first)

  -- the one that comes next has not come
  pub not_before : (w j : ℕ) → slice_get order w ≡ Some j → Before order w j → ⊥
  not_before w j here h =
      let at : h.0 ≡ w = once h.0 w j h.2 here in
      let lt : h.0 < w = h.1 in
      omega (arith, at, lt)

-- one of the first w + 1 is the last of them or one of the first w
pub before_less : (order : List ℕ) (w i j : ℕ) → slice_get order w ≡ Some i → (j ≡ i → ⊥) → Before order (suc w) j → Before order w j
before_less order w i j here other h =
    let lt : h.0 < suc w = h.1 in
    let differs : h.0 ≡ w → ⊥ = λ e. other (some_same j i (sym h.2 ∙ (ap (slice_get order) e ∙ here))) in
    (h.0, omega (arith, lt, differs), h.2)

pub own_at : (events : List Event) (p j : ℕ) (e : Event) → slice_get events j ≡ Some e → processor_of e ≡ p → IsOwn events p j
own_at events p j e there is = ap (option_map processor_of) there ∙ ap Some is

pub processor_at : (events : List Event) (p j : ℕ) (e : Event) → slice_get events j ≡ Some e → IsOwn events p j → processor_of e ≡ p
processor_at events p j e there own = some_same (processor_of e) p (sym (ap (option_map processor_of) there) ∙ own)
