-- By their spans one event comes before another just where it must in every order.
use Rattle.std.proofs.Common.{◌≡◌, ℕ, ◌≤◌, Bool, true, false, ◌&&◌, ◌||◌, eqb, ltb, Some, refl, ap, sym, ◌∙◌, arith, inl, inr, ◌⊎◌}
use Rattle.std.specs.Prelude.{◌↔◌, slice_get}
use Rattle.std.specs.Option.{option_map}
use Rattle.std.proofs.lemmas.Bool.{eqb-true, eq-eqb, ltb-true, lt-ltb}
use Rattle.std.proofs.lemmas.Option.{slice_get_within}
use Rattle.pg_event.specs.declared.event.Event.{Event}
use Rattle.pg_event.specs.Form.{processor_of}
use Rattle.pg_span_run.specs.Orders.{Spanned, MustPrecede, AreOfOneProcessor, ended_before}
use Rattle.pg_span_run.specs.declared.span.Span.{Span}
use Rattle.pg_span_run.specs.Spans.{precedes, span_of}
use Rattle.pg_span_run.specs.OrderLaws.{PrecedesByMust}

one_of : (a b : Bool) → (a || b) ≡ true → (a ≡ true) ⊎ (b ≡ true)
one_of true b h = inl refl
one_of false b h = inr h

left_of : (a b : Bool) → (a && b) ≡ true → a ≡ true
left_of true b h = refl
left_of false b h = h

right_of : (a b : Bool) → (a && b) ≡ true → b ≡ true
right_of true b h = h
right_of false b h = absurd cc

or_left : (a b : Bool) → a ≡ true → (a || b) ≡ true
or_left true b h = refl
or_left false b h = absurd cc

or_right : (a b : Bool) → b ≡ true → (a || b) ≡ true
or_right true b h = refl
or_right false b h = h

and_both : (a b : Bool) → a ≡ true → b ≡ true → (a && b) ≡ true
and_both true b h k = k
and_both false b h k = absurd cc

of_one : (s : Spanned) (j i : ℕ) (x y : Event) → slice_get s.events j ≡ Some x → slice_get s.events i ≡ Some y → processor_of x ≡ processor_of y → AreOfOneProcessor s.events j i
of_one s j i x y hx hy same =
    ap (option_map processor_of) hx ∙ (ap (λ (p : ℕ). Some p) same ∙ sym (ap (option_map processor_of) hy))

one_of_both : (s : Spanned) (j i : ℕ) (x y : Event) → slice_get s.events j ≡ Some x → slice_get s.events i ≡ Some y → AreOfOneProcessor s.events j i → processor_of x ≡ processor_of y
one_of_both s j i x y hx hy own =
    let both : Some (processor_of x) ≡ Some (processor_of y) = sym (ap (option_map processor_of) hx) ∙ (own ∙ ap (option_map processor_of) hy) in
    cc

to_must : (s : Spanned) (j i : ℕ) (x y : Event) → slice_get s.events j ≡ Some x → slice_get s.events i ≡ Some y → precedes (span_of s j x) (span_of s i y) ≡ true → MustPrecede s j i
to_must s j i x y hx hy is = record {
  within = slice_get_within s.events i y hy;
  why = elim (one_of (ltb j (ended_before s i)) (ltb j i && eqb (processor_of x) (processor_of y)) is) [
    | inl a ↦ inl (ltb-true j (ended_before s i) a)
    | inr b ↦ inr (
      ltb-true j i (left_of (ltb j i) (eqb (processor_of x) (processor_of y)) b),
      of_one s j i x y hx hy (eqb-true (processor_of x) (processor_of y) (right_of (ltb j i) (eqb (processor_of x) (processor_of y)) b)),
    )
  ];
}

from_must : (s : Spanned) (j i : ℕ) (x y : Event) → slice_get s.events j ≡ Some x → slice_get s.events i ≡ Some y → MustPrecede s j i → precedes (span_of s j x) (span_of s i y) ≡ true
from_must s j i x y hx hy must =
    elim must.why [
      | inl a ↦ or_left (ltb j (ended_before s i)) (ltb j i && eqb (processor_of x) (processor_of y)) (lt-ltb j (ended_before s i) a)
      | inr b ↦ or_right (ltb j (ended_before s i)) (ltb j i && eqb (processor_of x) (processor_of y))
          (and_both (ltb j i) (eqb (processor_of x) (processor_of y)) (lt-ltb j i b.0) (eq-eqb (processor_of x) (processor_of y) (one_of_both s j i x y hx hy b.1)))
    ]

pub precedes_by_must : PrecedesByMust
precedes_by_must s j i x y hx hy = (to_must s j i x y hx hy, from_must s j i x y hx hy)

-- by what is known of both
pub must_by_spans : (s : Spanned) (j i : ℕ) (x y : Event) (first second : Span) (is : Bool) → slice_get s.events j ≡ Some x → slice_get s.events i ≡ Some y →
    first ≡ span_of s j x → second ≡ span_of s i y → is ≡ precedes first second → (is ≡ true) ↔ MustPrecede s j i
must_by_spans s j i x y first second is there here a b same =
    let whole : is ≡ precedes (span_of s j x) (span_of s i y) = same ∙ (ap (λ (f : Span). precedes f second) a ∙ ap (λ (l : Span). precedes (span_of s j x) l) b) in
    (λ yes. to_must s j i x y there here (sym whole ∙ yes), λ must. whole ∙ from_must s j i x y there here must)

-- what comes no later does not
pub not_behind : (s : Spanned) (j i : ℕ) → i ≤ j → MustPrecede s j i → ⊥
not_behind s j i le must = elim must.why [
  | inl ended ↦ omega (arith, ended, le)
  | inr own ↦ omega (arith, own.0, le)
]
