-- Who wrote each word, one event after another.
use Rattle.std.proofs.Common.{◌≡◌, ℕ, suc, ◌+◌, ◌≤◌, true, ◌&&◌, cond, min, List, length, Some, None, refl, ap, sym, subst, ◌∙◌, arith, inl, inr}
use Rattle.std.specs.Prelude.{slice_get}
use Rattle.std.proofs.lemmas.Bool.{cases_lt, cases_Bool, lt-ltb, le-ltb}
use Rattle.pg_event.specs.declared.event.Event.{Event}
use Rattle.pg_timeline.specs.Keyed.{Keyed}
use Rattle.pg_moment.specs.Versions.{next_moment, value_at}
use Rattle.pg_search.specs.Writers.{writes, writes_some, IsWriter}
use Rattle.pg_explain.specs.Writers.{event_before, AreWriters, IsNotedWriter}
use Rattle.pg_search.proofs.Writers.{writer-passed, writer-found, writer-whole}

-- the writers among the first so many events are known
pub record AreFirst (events : List Event) (i : ℕ) (v : Keyed ℕ ℕ) : Type 0 where
  pub next : next_moment v ≤ i
  pub writers : (a w : ℕ) → IsWriter events a (min w i) (event_before (value_at v w a))

pub none_known : (events : List Event) (v : Keyed ℕ ℕ) → next_moment v ≡ 0 → ((w a : ℕ) → value_at v w a ≡ 0) → AreFirst events 0 v
none_known events v next none = record {
  next = omega (arith, next);
  writers = λ a w.
      let low : min w 0 ≡ 0 = omega arith in
      subst (λ n. IsWriter events a (min w 0) (event_before n)) (sym (none w a))
      (subst (λ k. IsWriter events a k None) (sym low) refl);
}

some_known : (a i : ℕ) (w : ℕ) (events : List Event) (e : Event) (value : ℕ) → slice_get events i ≡ Some e → IsWriter events a i (event_before value) → IsWriter events a (i + 1) (event_before (cond (writes a e) (i + 1) value))
some_known a i w events e value at is =
    elim (cases_Bool (writes a e)) as (λ _. IsWriter events a (i + 1) (event_before (cond (writes a e) (i + 1) value))) [
      | inl own ↦
          subst (λ b. IsWriter events a (i + 1) (event_before (cond b (i + 1) value))) (sym own)
          (last a i events (ap (writes_some a) at ∙ own))
      | inr other ↦
          subst (λ b. IsWriter events a (i + 1) (event_before (cond b (i + 1) value))) (sym other)
          (writer-passed events a i (event_before value) is (ap (writes_some a) at ∙ other))
    ]
  where
    last : (a i : ℕ) (events : List Event) → writes_some a (slice_get events i) ≡ true → IsWriter events a (i + 1) (event_before (i + 1))
    last a i events h = subst (λ n. IsWriter events a (i + 1) (event_before n)) (next i) (writer-found events a i h)
      where
        next : (i : ℕ) → suc i ≡ i + 1
        next i = omega arith

pub next_known : (events : List Event) (i : ℕ) (e : Event) (old new : Keyed ℕ ℕ) → slice_get events i ≡ Some e → AreFirst events i old → IsNotedWriter old new i e → AreFirst events (i + 1) new
next_known events i e old new at first noted = record {
  next = noted.next;
  writers = λ a w.
      elim (cases_lt i w) [
        | inl above ↦
            let now : min w (i + 1) ≡ i + 1 = omega arith in
            let then : min w i ≡ i = omega arith in
            let value : value_at new w a ≡ cond (writes a e) (i + 1) (value_at old w a) = noted.values w a ∙ ap (λ b. cond (b && writes a e) (i + 1) (value_at old w a)) (lt-ltb i w above) in
            subst (λ n. IsWriter events a (min w (i + 1)) (event_before n)) (sym value)
            (subst (λ k. IsWriter events a k (event_before (cond (writes a e) (i + 1) (value_at old w a)))) (sym now)
            (some_known a i w events e (value_at old w a) at (subst (λ k. IsWriter events a k (event_before (value_at old w a))) then (first.writers a w))))
        | inr below ↦
            let now : min w (i + 1) ≡ min w i = omega arith in
            let value : value_at new w a ≡ value_at old w a = noted.values w a ∙ ap (λ b. cond (b && writes a e) (i + 1) (value_at old w a)) (le-ltb i w below) in
            subst (λ n. IsWriter events a (min w (i + 1)) (event_before n)) (sym value)
            (subst (λ k. IsWriter events a k (event_before (value_at old w a))) (sym now) (first.writers a w))
      ];
}

pub all_known : (events : List Event) (i : ℕ) (v : Keyed ℕ ℕ) → i ≡ length events → AreFirst events i v → AreWriters events v
all_known events i v all first = λ a w.
    let same : min w i ≡ min w (length events) = ap (min w) all in
    writer-whole events a (min w i) (min w (length events)) w (event_before (value_at v w a)) refl same (first.writers a w)
