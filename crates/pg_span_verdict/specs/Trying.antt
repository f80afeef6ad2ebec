-- All orders tried one after another, those with lesser numbers first.
use Rattle.std.specs.Prelude.{◌≡◌, ℕ, ◌+◌, ◌<◌, ◌≤◌, List, [], ◌∷◌, ◌++◌, length, Some, slice_get}
use Rattle.std.specs.Prelude.{slice_index}
use Rattle.pg_certify.specs.Certified.{HasRunButMoments}
use Rattle.pg_span_run.specs.Orders.{Spanned, MustPrecede, IsOrder, ordered}
use Rattle.pg_span_verdict.specs.Runs.{HasOrderedRun}
use Rattle.pg_span_verdict.specs.Steps.{HasRoom, left}
use Rattle.pg_span_verdict.specs.Verdicts.{IsOrderedRun}
use Rattle.pg_span_verdict.specs.declared.trying.Trying.{Trying}
use Rattle.pg_span_verdict.specs.declared.trying.Tried.{Tried}
use Rattle.pg_span_verdict.specs.declared.trying.Tried.TheVariants.{Whole, NoOrder, Spent}

-- no more numbers than there are events, each of which is that of an event
pub record AreNumbers (s : Spanned) (numbers : List ℕ) : Type 0 where
  pub count : length numbers ≤ length s.events
  pub within : (k i : ℕ) → slice_get numbers k ≡ Some i → i < length s.events

-- a number stands nowhere in a list
abbrev pub Lacks : List ℕ → ℕ → Type 0
Lacks numbers i = (k : ℕ) → k < length numbers → slice_index numbers k ≡ i → ⊥

-- an event that must precede another stands nowhere in a list
pub record LacksEarlier (s : Spanned) (numbers : List ℕ) (i : ℕ) : Type 0 where
  pub earlier : ℕ
  pub must : MustPrecede s earlier i
  pub lacks : Lacks numbers earlier

-- no order that begins with these numbers has a run
abbrev pub NoneBegins : Spanned → List ℕ → Type 0
NoneBegins s front = (rest : List ℕ) → IsOrder s (front ++ rest) →
    HasRunButMoments s.head (ordered s.events (front ++ rest)) → ⊥

-- none that goes on with a number below a bound
abbrev pub NoneBelow : Spanned → List ℕ → ℕ → Type 0
NoneBelow s front bound = (i : ℕ) → i < bound → NoneBegins s (front ++ i ∷ [])

-- no order with a run begins with the numbers that are done and goes on with lesser ones than
-- these, or with these and then with one below a bound
unfoldable pub AreTried : Spanned → List ℕ → List ℕ → ℕ → Type 0
AreTried s done [] next = NoneBelow s done next
AreTried s done (i ∷ is) next = NoneBelow s done i × AreTried s (done ++ i ∷ []) is next

-- where the search stands
pub record IsTrying (s : Spanned) (t : Trying) : Type 0 where
  pub numbers : AreNumbers s t.front.items
  pub next : t.next ≤ length s.events
  pub tried : AreTried s [] t.front.items t.next
  pub whole : length t.front.items ≡ length s.events → IsOrderedRun s t.front.items
  pub room : HasRoom (length s.events) t.front.items

-- a step was made: there are fewer left
abbrev pub GoesOn : Spanned → Trying → Trying → Type 0
GoesOn s t u =
    left (length s.events) [] u.front.items u.next + 1
    ≤ left (length s.events) [] t.front.items t.next

-- an order that was found has a run; where none is left, none has; and of eight events or fewer all
-- orders are tried
abbrev pub IsTried : Spanned → Tried → Type 0
IsTried s (Whole order) = IsOrderedRun s order.items
IsTried s NoOrder = HasOrderedRun s → ⊥
IsTried s Spent = 8 < length s.events
