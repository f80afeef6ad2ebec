-- Each step keeps the rule of a deque.
use Rattle.std.proofs.Common.{◌≡◌, ◌≢◌, ℕ, zero, suc, ◌+◌, ◌≤◌, ◌<◌, true, false, true≢false, List, [], ◌∷◌, ◌++◌, length, set, map, sym, refl, ap, ◌∙◌, subst, ⊎_elim, arith}
use Rattle.std.proofs.Common.{sum_by}
use Rattle.std.proofs.lemmas.List.Sums.{sum_by-cons}
use mathlib.Core.Option.{some, some-ne-none, some-injective}
use lib.ListN.{get_elem?}
use Rattle.atomic_table.proofs.Lists.{set_here}
use Rattle.crossbeam_deque.specs.Tasks.{Pushes, Takes, Forks}
use Rattle.crossbeam_deque.proofs.Lists.{at_set, at_snoc}
use Rattle.pg_pool.specs.declared.deque_view.DequeView.{DequeView}
use Rattle.pg_pool.proofs.Times.{times-append}
use Rattle.pg_pool.specs.DequeRule.{times, deque_view, deque_numbers, AddsUp, Knows, IsKept, Pushed, Took}

-- how often all seats took a number
abbrev all_taken : ℕ → List DequeView → ℕ
all_taken n views = sum_by (times n) (map (λ h. h.taken) views)

all_taken-cons : (n : ℕ) (h : DequeView) (views : List DequeView) → all_taken n (h ∷ views) ≡ times n h.taken + all_taken n views
all_taken-cons n h views = sum_by-cons (times n) h.taken (map (λ u. u.taken) views)

all_taken-set : (n : ℕ) (views : List DequeView) (port : ℕ) (h w : DequeView) → get_elem? views port ≡ some h → all_taken n (set views port w) + times n h.taken ≡ all_taken n views + times n w.taken
all_taken-set n [] port h w at = absurd (some-ne-none h (sym at))
all_taken-set n (x ∷ xs) zero h w at =
    let e = ap (λ (u : DequeView). times n u.taken) (some-injective x h at) in
    omega (arith, all_taken-cons n x xs, all_taken-cons n w xs)
all_taken-set n (x ∷ xs) (suc port) h w at =
    omega (arith, all_taken-cons n x xs, all_taken-cons n x (set xs port w), all_taken-set n xs port h w at)

all_taken-push : (n : ℕ) (views : List DequeView) (w : DequeView) → all_taken n (views ++ w ∷ []) ≡ all_taken n views + times n w.taken
all_taken-push n [] w = omega (arith, all_taken-cons n w [])
all_taken-push n (x ∷ xs) w = omega (arith, all_taken-cons n x xs, all_taken-cons n x (xs ++ w ∷ []), all_taken-push n xs w)

all_taken-from : (n : ℕ) (views : List DequeView) (port : ℕ) (h : DequeView) → get_elem? views port ≡ some h → times n h.taken ≤ all_taken n views
all_taken-from n [] port h at = absurd (some-ne-none h (sym at))
all_taken-from n (x ∷ xs) zero h at =
    let e = ap (λ (u : DequeView). times n u.taken) (some-injective x h at) in
    omega (arith, all_taken-cons n x xs)
all_taken-from n (x ∷ xs) (suc port) h at = omega (arith, all_taken-cons n x xs, all_taken-from n xs port h at)

in_range : (views : List DequeView) (port : ℕ) (h : DequeView) → get_elem? views port ≡ some h → port < length views
in_range [] port h at = absurd (some-ne-none h (sym at))
in_range (x ∷ xs) zero h at = omega arith
in_range (x ∷ xs) (suc port) h at = omega (arith, in_range xs port h at)

set_alone : (port : ℕ) (h w : DequeView) → get_elem? (h ∷ []) port ≡ some h → set (h ∷ []) port w ≡ w ∷ []
set_alone zero h w at = refl
set_alone (suc port) h w at = absurd (some-ne-none h (sym at))

at_alone : (port : ℕ) (u w : DequeView) → get_elem? (w ∷ []) port ≡ some u → w ≡ u
at_alone zero u w at = some-injective w u at
at_alone (suc port) u w at = absurd (some-ne-none u (sym at))

-- a view that was alone stays alone when it changes
still_alone : (views : List DequeView) (port : ℕ) (h w : DequeView) → get_elem? views port ≡ some h → views ≡ h ∷ [] → set views port w ≡ w ∷ []
still_alone views port h w at only =
    ap (λ (l : List DequeView). set l port w) only ∙ set_alone port h w (subst (λ (l : List DequeView). get_elem? l port ≡ some h) only at)

-- where a view is alone, every view stands at one port
one_port : (views : List DequeView) (x u : DequeView) (i j : ℕ) (v : DequeView) → views ≡ x ∷ [] → get_elem? views i ≡ some u → get_elem? views j ≡ some v → i ≡ j
one_port views x u i j v only e f = go i j (subst (λ (l : List DequeView). get_elem? l i ≡ some u) only e) (subst (λ (l : List DequeView). get_elem? l j ≡ some v) only f)
  where
    go : (i j : ℕ) → get_elem? (x ∷ []) i ≡ some u → get_elem? (x ∷ []) j ≡ some v → i ≡ j
    go zero zero a b = refl
    go zero (suc j) a b = absurd (some-ne-none v (sym b))
    go (suc i) j a b = absurd (some-ne-none u (sym a))

pub begins : IsKept [] (deque_view true [] [] ∷ [])
begins = record {
  pushed = [];
  adds_up = λ n. refl;
  known = λ port h at. let e = at_alone port h (deque_view true [] []) at in (ap (λ (u : DequeView). u.pushed) (sym e), λ _. ap (λ (u : DequeView). u ∷ []) e);
}

pub pushes : (port : ℕ) (h : DequeView) (xs : List ℕ) → h.alone ≡ true → Pushes IsKept port h xs (Pushed h xs)
pushes port h xs alone left views k at =
    let w : DequeView = deque_view h.alone (h.pushed ++ xs) h.taken in
    let only : views ≡ h ∷ [] = (k.known port h at).1 alone in
    let now : set views port w ≡ w ∷ [] = still_alone views port h w at only in
    let pushed : h.pushed ≡ k.pushed = (k.known port h at).0 in (
      w,
      record {
        pushed = k.pushed ++ xs;
        adds_up = λ n.
            let a = k.adds_up n in
            let s = all_taken-set n views port h w at in
            omega (arith, times-append n k.pushed xs, times-append n left xs);
        known = λ j u e.
            let is : w ≡ u = at_alone j u w (subst (λ (l : List DequeView). get_elem? l j ≡ some u) now e) in
            (ap (λ (y : DequeView). y.pushed) (sym is) ∙ ap (λ (l : List ℕ). l ++ xs) pushed, λ _. now ∙ ap (λ (y : DequeView). y ∷ []) is);
      },
      refl,
    )

-- the other views know the same when the view at a port took more
known-set : (pushed : List ℕ) (views : List DequeView) (port : ℕ) (h w : DequeView) → w.pushed ≡ h.pushed → w.alone ≡ h.alone → get_elem? views port ≡ some h
    → ((i : ℕ) (u : DequeView) → get_elem? views i ≡ some u → Knows pushed views u)
    → (i : ℕ) (u : DequeView) → get_elem? (set views port w) i ≡ some u → Knows pushed (set views port w) u
known-set pushed views port h w same alone at known i u e =
    let mine = known port h at in
    ⊎_elim (λ (t : (i ≡ port) × (w ≡ u)).
    (ap (λ (y : DequeView). y.pushed) (sym t.1) ∙ same ∙ mine.0, λ a. still_alone views port h w at (mine.1 (sym alone ∙ ap (λ (y : DequeView). y.alone) t.1 ∙ a)) ∙ ap (λ (y : DequeView). y ∷ []) t.1))
    (λ (t : (i ≢ port) × (get_elem? views i ≡ some u)).
    ((known i u t.1).0, λ a. absurd (t.0 (one_port views u u i port h ((known i u t.1).1 a) t.1 at))))
    (at_set views port i w u e)

pub takes : (port : ℕ) (h : DequeView) → Takes IsKept port h 1 (Took h)
takes port h xs left views _ _ k at =
    let w : DequeView = deque_view h.alone h.pushed (h.taken ++ xs) in
    let adds : AddsUp (deque_numbers k.pushed left (set views port w)) = (λ n.
    let a = k.adds_up n in
    let s = all_taken-set n views port h w at in
    omega (arith, times-append n xs left, times-append n h.taken xs)) in
    let there : get_elem? (set views port w) port ≡ some w = set_here views port w (in_range views port h at) in (
      w,
      record { pushed = k.pushed; adds_up = adds; known = known-set k.pushed views port h w refl refl at k.known },
      (
        refl,
        λ n.
            let a = adds n in
            let l = all_taken-from n (set views port w) port w there in
            let p = ap (times n) (k.known port h at).0 in
            omega arith,
      ),
    )

pub forks : (port : ℕ) (h : DequeView) → Forks IsKept port h (deque_view false h.pushed h.taken) (deque_view false h.pushed [])
forks port h left views k at =
    let l : DequeView = deque_view false h.pushed h.taken in
    let r : DequeView = deque_view false h.pushed [] in
    let mine = k.known port h at in record {
      pushed = k.pushed;
      adds_up = λ n.
          let a = k.adds_up n in
          let s = all_taken-set n views port h l at in
          omega (arith, all_taken-push n (set views port l) r);
      known = λ j u e.
          ⊎_elim (λ was.
          ⊎_elim (λ (t : (j ≡ port) × (l ≡ u)).
          (ap (λ (y : DequeView). y.pushed) (sym t.1) ∙ mine.0, λ a. absurd (true≢false (sym (ap (λ (y : DequeView). y.alone) t.1 ∙ a)))))
          (λ (t : (j ≢ port) × (get_elem? views j ≡ some u)).
          ((k.known j u t.1).0, λ a. absurd (t.0 (one_port views u u j port h ((k.known j u t.1).1 a) t.1 at))))
          (at_set views port j l u was))
          (λ (is : r ≡ u). (ap (λ (y : DequeView). y.pushed) (sym is) ∙ mine.0, λ a. absurd (true≢false (sym (ap (λ (y : DequeView). y.alone) is ∙ a)))))
          (at_snoc (set views port l) r u j e);
    }
