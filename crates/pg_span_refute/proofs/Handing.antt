-- What is known is handed on over an event, and tells at last that an event cannot come.
use Rattle.std.proofs.Common.{◌≡◌, ℕ, suc, ◌+◌, ◌<◌, List, max, length, ap, ◌∙◌, subst, arith, inl, inr, Some}
use Rattle.std.specs.Prelude.{slice_get}
use Rattle.std.proofs.lemmas.Bool.{cases_lt}
use Rattle.pg_event.specs.declared.event.Event.{Event}
use Rattle.pg_event.specs.Form.{processor_of}
use Rattle.pg_event.specs.Values.{controlled}
use Rattle.pg_span_run.specs.Orders.{Spanned, ended_before}
use Rattle.pg_span_refute.specs.declared.edge.Edge.{Edge}
use Rattle.pg_span_refute.specs.declared.slot.Slot.{Slot}
use Rattle.pg_span_refute.specs.Caches.{Known, Grows, IsFilled, IsLeft, IsNotGiven}
use Rattle.pg_span_refute.specs.Orders.{NamesWalk}
use Rattle.pg_span_refute.specs.Supposed.{NeverComesSo}
use Rattle.pg_span_refute.proofs.History.{own_at, processor_at}
use Rattle.pg_span_refute.proofs.Covering.{Covers, Enters, fill_covers}
use Rattle.pg_span_refute.proofs.Entering.{HasEnded, passes, skips}
use Rattle.pg_span_refute.proofs.Refuting.{no_run}

pub has_ended : (s : Spanned) (i ended later : ℕ) → i < length s.events → later ≡ max ended (ended_before s i) → HasEnded s i ended later
has_ended s i ended later within is j lt = elim (cases_lt j ended) [
  | inl low ↦ inl low
  | inr high ↦ inr (record { within = within; why = inl (let low : j < ended_before s i = omega (arith, is, lt, high) in low) })
]

-- over an event of the processor
pub hands_on : (s : Spanned) (la : ℕ) (f : Known) (slot : Slot) → IsFilled s slot la f → (later : ℕ) (x : Event) (k l : Known) →
    slice_get s.events slot.next ≡ Some x → processor_of x ≡ slot.p → slot.next < length s.events →
    Enters s slot.edges.now slot.p la slot.next slot.ended k → Grows k f → IsLeft s.head.cfg.rules la x f l → l.control ≡ controlled s.head.cfg.m (processor_of x) f.control x →
    later ≡ max slot.ended (ended_before s slot.next) → Enters s slot.edges.now slot.p la (slot.next + 1) later l
hands_on s la f slot filled later x k l there mine within enters grows left control is =
    let c : ℕ = slot.next in
    let p : ℕ = slot.p in
    let edges : List Edge = slot.edges.now in
    let control' : l.control ≡ controlled s.head.cfg.m p f.control x = control ∙ ap (λ q. controlled s.head.cfg.m q f.control x) mine in
    let covers : Covers s edges p la c slot.ended f = fill_covers s slot la k f (own_at s.events p c x there mine) enters grows filled in
    let next : suc c ≡ c + 1 = omega arith in
    subst (λ n. Enters s edges p la n later l) next (passes s edges p la c slot.ended later x f l there mine control' left (has_ended s c slot.ended later within is) covers)

-- over an event of another processor
pub hands_over : (s : Spanned) (edges : List Edge) (p la c ended : ℕ) (x : Event) (k : Known) → slice_get s.events c ≡ Some x → (processor_of x ≡ p → ⊥) →
    Enters s edges p la c ended k → Enters s edges p la (c + 1) ended k
hands_over s edges p la c ended x k there other enters =
    let next : suc c ≡ c + 1 = omega arith in
    subst (λ n. Enters s edges p la n ended k) next (skips s edges p la c ended k (λ own. other (processor_at s.events p c x there own)) enters)

-- at the event itself
pub cannot_run : (s : Spanned) (la : ℕ) (f : Known) (slot : Slot) → IsFilled s slot la f → (asked : Event) (at_event : Slot) →
    IsNotGiven s at_event la f asked → at_event.p ≡ slot.p → at_event.next ≡ slot.next → at_event.edges.now ≡ slot.edges.now →
    (k : Known) → slice_get s.events slot.next ≡ Some asked → processor_of asked ≡ slot.p → NamesWalk la asked → slot.next < length s.events →
    Enters s slot.edges.now slot.p la slot.next slot.ended k → Grows k f → at_event.ended ≡ max slot.ended (ended_before s slot.next) → NeverComesSo s slot.edges.now slot.next
cannot_run s la f slot filled asked at_event cannot same_p same_next same_edges k there mine walk within enters grows is order place orders keeps at run =
    let covers : Covers s slot.edges.now slot.p la slot.next slot.ended f =
    fill_covers s slot la k f (own_at s.events slot.p slot.next asked there mine) enters grows filled in
    no_run s slot la asked f at_event there mine walk filled covers same_p same_next same_edges (has_ended s slot.next slot.ended at_event.ended within is) cannot order orders keeps
    place at run.0 run.1 run.2
