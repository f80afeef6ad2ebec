-- Reaches of a whole level.
use Rattle.std.proofs.Common.{◌≡◌, ℕ, ◌+◌, ◌-◌, ◌≤◌, ◌^◌, min, max, false, List, [], ◌∷◌, ◌++◌, inl, inr, refl, ap, sym, ◌∙◌, subst, arith}
use Rattle.std.proofs.lemmas.List.Elements.{All-contains, Contains-push_cases}
use Rattle.pg_entry.specs.declared.Level.{Level}
use Rattle.pg_entry.specs.declared.Level.TheVariants.{Four}
use Rattle.pg_event.specs.declared.control.Control.{Control}
use Rattle.pg_event.specs.Spelling.{Recorded}
use Rattle.pg_event.specs.Values.{control_at}
use Rattle.pg_event.specs.Walk.{root_of}
use Rattle.pg_timeline.specs.declared.timeline.Span.{Span}
use Rattle.pg_reach.specs.declared.walker.Walker.{Walker}
use Rattle.pg_reach.specs.declared.reach.Reach.{Reach}
use Rattle.pg_reach.specs.Stays.{IsStay, AreStays}
use Rattle.pg_reach.specs.Reaching.{IsReach, Has, AreAt, next_at, AreNext, IsFilled, AreBelow, IsAdded, root_reach, AreRootsOf, AreRoots}
use Rattle.pg_search.specs.Freshness.{is_as_fresh}
use Rattle.pg_search.proofs.Freshness.{fresh_refl}
use Rattle.pg_event.specs.declared.walk.Parent.{Parent}

-- what stands where there is no reach
abbrev pub no_reach : Reach
no_reach = record { from = 0; to = 0; table = record { table = 0; rights = record { write = false; user = false; xd = false } }; latest = [] }

pub below_more : (r : Recorded) (v : Walker) (level : Level) (low : ℕ) (xs : List Reach) (x : Reach) (olds news : List Reach) → AreBelow r v level low xs olds → IsFilled r v level (max x.from low) (min x.to v.number + 1) x olds news →
    AreBelow r v level low (xs ++ x ∷ []) news
below_more r v level low xs x olds news h filled = record {
  each = filled.each h.each;
  next = λ y here. elim (Contains-push_cases xs x y here) as (λ _. AreNext r v level (max y.from low) (min y.to v.number + 1) news y) [
    | inl a ↦ λ w t ws from lt leads fresh. filled.kept (next_at r v level y.table w) t (ws ++ w ∷ []) (h.next y a w t ws from lt leads fresh)
    | inr e ↦ subst (λ (z : Reach). AreNext r v level (max z.from low) (min z.to v.number + 1) news z) e filled.next
  ];
}

-- one stay more

root_is : (r : Recorded) (v : Walker) (s : Span Control) → IsStay r v s → IsReach r v Four (root_reach s)
root_is r v s h = record {
  within = h.steady.root;
  few = omega arith;
  next = ([], refl);
  way = λ w from to under.
      let last : min w (2 ^ 32 - 1) ≡ w = omega (arith, to, h.steady.small) in
      let same : root_of (control_at r.head r.events v.p w) ≡ root_of s.value = ap root_of (h.steady.same w from to) in
      ([], ap (λ (x : ℕ). x ∷ []) last, (under, (refl, same)));
}

root_has : (r : Recorded) (v : Walker) (s : Span Control) (w : ℕ) → IsStay r v s → s.from ≤ w → w ≤ s.to → Has v.freshest (root_of s.value) w [] (root_reach s)
root_has r v s w h from to =
    let last : min w (2 ^ 32 - 1) ≡ w = omega (arith, to, h.steady.small) in
    record {
      table = refl;
      from = from;
      to = to;
      fresh = λ f. ap (λ (n : ℕ). is_as_fresh (n ∷ []) (w ∷ [])) last ∙ fresh_refl (w ∷ []);
    }

pub roots_more : (r : Recorded) (v : Walker) (stays : List (Span Control)) (s : Span Control) (olds news : List Reach) → IsStay r v s → AreRootsOf r v stays olds → IsAdded v.freshest olds news (root_reach s) → AreRootsOf r v (stays ++ s ∷ []) news
roots_more r v stays s olds news stay h added = record {
  each = added.each r v Four (root_is r v s stay) h.each;
  all = λ z here. elim (Contains-push_cases stays s z here) as (λ _. (w : ℕ) → z.from ≤ w → w ≤ z.to → AreAt v.freshest news (root_of z.value) w []) [
    | inl a ↦ λ w from to. added.kept (root_of z.value) w [] (h.all z a w from to)
    | inr e ↦ subst (λ (y : Span Control). (w : ℕ) → y.from ≤ w → w ≤ y.to → AreAt v.freshest news (root_of y.value) w []) e (λ w from to. added.new (root_of s.value) w [] (root_has r v s w stay from to))
  ];
}

pub roots_all : (r : Recorded) (v : Walker) (low : ℕ) (stays : List (Span Control)) (roots : List Reach) → AreStays r v low stays → AreRootsOf r v stays roots → AreRoots r v low roots
roots_all r v low stays roots h own = record {
  each = own.each;
  all = λ w from to under.
      let s = h.all w from to under in
      let stay : IsStay r v s.0 = All-contains (IsStay r v) stays s.0 h.each s.1 in
      subst (λ (t : Parent). AreAt v.freshest roots t w []) (ap root_of (sym (stay.steady.same w s.2 s.3))) (own.all s.0 s.1 w s.2 s.3);
}
