-- What may have been cached, slot by slot, covers every run; so without a witness none comes.
use Rattle.std.proofs.Common.{◌≡◌, ℕ, zero, suc, ◌+◌, ◌<◌, List, [], ◌∷◌, ◌++◌, max, length, refl, ap, sym, ◌∙◌, subst, arith, inl, inr, Some}
use Rattle.std.specs.Prelude.{slice_get}
use Rattle.std.proofs.lemmas.Option.{slice_get_within}
use Rattle.pg_event.specs.declared.event.Event.{Event}
use Rattle.pg_event.specs.Form.{processor_of}
use Rattle.pg_event.specs.Values.{controlled, started}
use Rattle.pg_span_run.specs.Orders.{Spanned, ended_before}
use Rattle.pg_span_refute.specs.declared.edge.Edge.{Edge}
use Rattle.pg_span_refute.specs.declared.slot.Slot.{Slot}
use Rattle.pg_span_refute.specs.Caches.{Known, Grows, IsFilled, IsLeft, IsNotGiven}
use Rattle.pg_span_refute.specs.Orders.{NamesWalk}
use Rattle.pg_span_refute.specs.Supposed.{NeverComesSo, WithoutAWitness, turned, FollowInTurn}
use Rattle.pg_span_refute.specs.Witness.{IsSlot, MayHaveCached, HasNoWitness}
use Rattle.pg_span_refute.proofs.Covering.{Enters}
use Rattle.pg_span_refute.proofs.Entering.{starts, skips}
use Rattle.pg_span_refute.proofs.Handing.{hands_on, cannot_run}
use Rattle.pg_span_refute.proofs.History.{processor_at}

-- nothing was cached at the start
pub at_start : (s : Spanned) (edges : List Edge) (p la : ℕ) → MayHaveCached s edges p la 0 0 (record { control = started s.head.cfg.m (slice_get s.head.processors p); tables = []; translations = [] })
unfolding MayHaveCached
at_start s edges p la = (refl, refl)

-- over an event of the processor
pub on : (s : Spanned) (la : ℕ) (f : Known) (slot : Slot) → IsFilled s slot la f → (later : ℕ) (x : Event) (k l : Known) →
    slice_get s.events slot.next ≡ Some x → processor_of x ≡ slot.p →
    MayHaveCached s slot.edges.now slot.p la slot.next slot.ended k → Grows k f → IsLeft s.head.cfg.rules la x f l → l.control ≡ controlled s.head.cfg.m (processor_of x) f.control x →
    later ≡ max slot.ended (ended_before s slot.next) → MayHaveCached s slot.edges.now slot.p la (slot.next + 1) later l
unfolding MayHaveCached
on s la f slot filled later x k l there mine may grows left control is =
    let next : suc slot.next ≡ slot.next + 1 = omega arith in
    subst (λ n. MayHaveCached s slot.edges.now slot.p la n later l) next (inr (
      k,
      slot,
      record { same_p = refl; same_next = refl; same_edges = refl },
      may,
      record {
        event = x;
        there = there;
        own = mine;
        filled = f;
        grows = grows;
        fills = filled;
        left = left;
        control = control;
        come = is;
      },
    ))

-- over an event of another processor
pub over : (s : Spanned) (edges : List Edge) (p la c ended : ℕ) (x : Event) (k : Known) → slice_get s.events c ≡ Some x → (processor_of x ≡ p → ⊥) →
    MayHaveCached s edges p la c ended k → MayHaveCached s edges p la (c + 1) ended k
unfolding MayHaveCached
over s edges p la c ended x k there other may =
    let next : suc c ≡ c + 1 = omega arith in
    subst (λ n. MayHaveCached s edges p la n ended k) next (inl (λ own. other (processor_at s.events p c x there own), may))

-- at the event itself
pub none_at : (s : Spanned) (la : ℕ) (f : Known) (slot : Slot) → IsFilled s slot la f → (asked : Event) (at_event : Slot) →
    IsNotGiven s at_event la f asked → at_event.p ≡ slot.p → at_event.next ≡ slot.next → at_event.edges.now ≡ slot.edges.now →
    (k : Known) → slice_get s.events slot.next ≡ Some asked → processor_of asked ≡ slot.p → NamesWalk la asked →
    MayHaveCached s slot.edges.now slot.p la slot.next slot.ended k → Grows k f → at_event.ended ≡ max slot.ended (ended_before s slot.next) → HasNoWitness s slot.edges.now slot.next
none_at s la f slot filled asked at_event cannot same_p same_next same_edges k there mine walk may grows is = record {
  event = asked;
  there = there;
  la = la;
  walk = walk;
  slot = slot;
  before = record { same_p = sym mine; same_next = refl; same_edges = refl };
  cached = k;
  may = subst (λ q. MayHaveCached s slot.edges.now q la slot.next slot.ended k) (sym mine) may;
  filled = f;
  grows = grows;
  fills = filled;
  at = at_event;
  at_event = record { same_p = same_p ∙ sym mine; same_next = same_next; same_edges = same_edges };
  come = is;
  none = cannot;
}

-- what is said of a slot is said of what it names
of_slot : (P : List Edge → ℕ → ℕ → Type 0) (edges : List Edge) (p next : ℕ) (slot : Slot) → IsSlot edges p next slot → P edges p next → P slot.edges.now slot.p slot.next
of_slot P edges p next slot is h =
    subst (λ es. P es slot.p slot.next) (sym is.same_edges) (subst (λ q. P edges q slot.next) (sym is.same_p) (subst (P edges p) (sym is.same_next) h))

of_named : (P : List Edge → ℕ → ℕ → Type 0) (edges : List Edge) (p next : ℕ) (slot : Slot) → IsSlot edges p next slot → P slot.edges.now slot.p slot.next → P edges p next
of_named P edges p next slot is h =
    subst (P edges p) is.same_next (subst (λ q. P edges q slot.next) is.same_p (subst (λ es. P es slot.p slot.next) is.same_edges h))

-- each run has cached no more
enters : (s : Spanned) (edges : List Edge) (p la next ended : ℕ) (k : Known) → MayHaveCached s edges p la next ended k → Enters s edges p la next ended k
unfolding MayHaveCached
enters s edges p la zero ended k may =
    subst (λ n. Enters s edges p la 0 n k) (sym may.0) (subst (Enters s edges p la 0 0) (sym may.1) (starts s edges p la))
enters s edges p la (suc n) ended l (inl other) = skips s edges p la n ended l other.0 (enters s edges p la n ended l other.1)
enters s edges p la (suc n) ended l (inr (k, slot, is, may, x)) =
    let before : Enters s slot.edges.now slot.p la slot.next slot.ended k =
    of_slot (λ es q m. Enters s es q la m slot.ended k) edges p n slot is (enters s edges p la n slot.ended k may) in
    let within : slot.next < length s.events = slice_get_within s.events slot.next x.event x.there in
    let after : Enters s slot.edges.now slot.p la (slot.next + 1) ended l =
    hands_on s la x.filled slot x.fills ended x.event k l x.there x.own within before x.grows x.left x.control x.come in
    let named : Enters s edges p la (n + 1) ended l = of_named (λ es q m. Enters s es q la (m + 1) ended l) edges p n slot is after in
    let next : n + 1 ≡ suc n = omega arith in
    subst (λ m. Enters s edges p la m ended l) next named

pub without_a_witness : WithoutAWitness
without_a_witness s edges i is =
    let slot : Slot = is.slot in
    let p : ℕ = processor_of is.event in
    let there : slice_get s.events slot.next ≡ Some is.event = ap (slice_get s.events) is.before.same_next ∙ is.there in
    let before : Enters s slot.edges.now slot.p is.la slot.next slot.ended is.cached =
    of_slot (λ es q m. Enters s es q is.la m slot.ended is.cached) edges p i slot is.before (enters s edges p is.la i slot.ended is.cached is.may) in
    let come : is.at.ended ≡ max slot.ended (ended_before s slot.next) = is.come ∙ ap (λ m. max slot.ended (ended_before s m)) (sym is.before.same_next) in
    of_named (λ es q m. NeverComesSo s es m) edges p i slot is.before
    (cannot_run s is.la is.filled slot is.fills is.event is.at is.none (is.at_event.same_p ∙ sym is.before.same_p) (is.at_event.same_next ∙ sym is.before.same_next) (is.at_event.same_edges ∙ sym is.before.same_edges)
    is.cached there (sym is.before.same_p) is.walk (slice_get_within s.events slot.next is.event there) before is.grows come)

-- one more edge follows
pub follows : (s : Spanned) (before edges : List Edge) (edge : Edge) → FollowInTurn s before edges → HasNoWitness s ((before ++ edges) ++ turned edge ∷ []) edge.second → FollowInTurn s before (edges ++ edge ∷ [])
unfolding FollowInTurn
follows s before [] edge all none = (subst (λ es. HasNoWitness s (es ++ turned edge ∷ []) edge.second) (nothing before) none, tt)
  where
    nothing : (es : List Edge) → es ++ [] ≡ es
    nothing [] = refl
    nothing (e ∷ es) = ap (λ xs. e ∷ xs) (nothing es)
follows s before (e ∷ es) edge all none =
    (all.0, follows s (before ++ e ∷ []) es edge all.1 (subst (λ xs. HasNoWitness s (xs ++ turned edge ∷ []) edge.second) (shift before e es) none))
  where
    shift : (xs : List Edge) (e : Edge) (es : List Edge) → xs ++ e ∷ es ≡ (xs ++ e ∷ []) ++ es
    shift [] e es = refl
    shift (x ∷ xs) e es = ap (λ ys. x ∷ ys) (shift xs e es)

pub none_follow : (s : Spanned) (before : List Edge) → FollowInTurn s before []
unfolding FollowInTurn
none_follow s before = tt
