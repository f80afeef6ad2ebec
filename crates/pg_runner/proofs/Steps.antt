-- Each step keeps the rule.
use Rattle.std.proofs.Common.{◌≡◌, ◌≢◌, ℕ, zero, suc, ◌/◌, ◌%◌, ◌≤◌, max, true, false, true≢false, List, [], ◌∷◌, set, slice_index, sym, refl, ap, ◌∙◌, subst, ⊎_elim, arith}
use mathlib.Core.Option.{none, some, some-ne-none, some-injective}
use lib.ListN.{get_elem?}
use Rattle.std.proofs.lemmas.Bool.Decides.{nat_tests}
use Rattle.atomic_table.specs.Table.{State, Me, step, keeps, Allows, Splits, Joins, opening}
use Rattle.atomic_table.proofs.Lists.{at_set, at_snoc}
use Rattle.pg_runner.specs.declared.seen.Seen.{Seen}
use Rattle.pg_runner.specs.Rising.{seen, packed, is_below, IsPacked, IsRising, Rises, Stored, Loaded, Confirmed}

abbrev All : (ℕ → Seen → Type 0) → List Seen → Type 0
All F views = (id : ℕ) (v : Seen) → get_elem? views id ≡ some v → F id v

all_set : (F : ℕ → Seen → Type 0) (views : List Seen) (id : ℕ) (w : Seen) → F id w → ((j : ℕ) (u : Seen) → j ≢ id → get_elem? views j ≡ some u → F j u) → All F (set views id w)
all_set F views id w mine others j u e = ⊎_elim (λ (x : (j ≡ id) × (w ≡ u)). subst (λ (y : ℕ × Seen). F y.0 y.1) (λ i. (sym x.0 i, x.1 i)) mine)
    (λ (x : (j ≢ id) × (get_elem? views j ≡ some u)). others j u x.0 x.1) (at_set views id j w u e)

at_one : (j : ℕ) (u w : Seen) → get_elem? (w ∷ []) j ≡ some u → (j ≡ 0) × (w ≡ u)
at_one zero u w e = (refl, some-injective w u e)
at_one (suc j) u w e = absurd (some-ne-none u (sym e))

-- what the rule says of one view
abbrev Fits : ℕ → ℕ → ℕ → Seen → Type 0
Fits events segments id v = (v.events ≤ events) × (v.segments ≤ segments) × (v.agrees ≡ true) × (v.stores ≡ true → (id ≡ 0) × (v.events ≡ events) × (v.segments ≡ segments))

fits_of : (s : State (Unit {0}) Seen) (e g : ℕ) → IsRising s e g → All (Fits e g) s.views
fits_of s e g k id v at = ((k.below id v at).0, (k.below id v at).1, k.agree id v at, k.stores id v at)

kept_of : (s : State (Unit {0}) Seen) (e g : ℕ) → IsPacked e g → s.words ≡ packed e g ∷ [] → All (Fits e g) s.views → IsRising s e g
kept_of s e g pair word all = record {
  pair = pair;
  word = word;
  below = λ id v at. ((all id v at).0, (all id v at).1);
  agree = λ id v at. (all id v at).2;
  stores = λ id v at. (all id v at).3;
}

pub begins : Rises (opening (0 ∷ []) [] (seen true 0 0))
begins = (
  0,
  0,
  kept_of _ 0 0 (omega arith, omega arith) refl (λ j u e. let a = at_one j u (seen true 0 0) e in
      subst (λ (y : Seen). Fits 0 0 j y) a.1 (omega arith, omega arith, refl, λ _. (a.0, refl, refl))),
)

pub stores : (slots id : ℕ) (me : Me (Unit {0}) Seen) (e g : ℕ) → me.0.stores ≡ true → me.0.events ≤ e → me.0.segments ≤ g → IsPacked e g
    → Allows Rises slots id me 0 (λ _. packed e g) (λ _. Stored (step slots 0 (packed e g) 0 none) me (packed e g))
stores slots id me e g may up up' pair s k len at room =
    let w : Seen = seen me.0.stores e g in
    let all = fits_of s k.0 k.1 k.2 in
    let mine = all id me.0 at in
    let here = mine.3 may in (
      w,
      keeps,
      tt,
      (
        e,
        g,
        kept_of _ e g pair (ap (λ l. set l 0 (packed e g)) k.2.word)
            (all_set (Fits e g) s.views id w (omega arith, omega arith, refl, λ _. (here.0, refl, refl))
            (λ j u other a. let f = all j u a in (omega (arith, f.0, here.1), omega (arith, f.1, here.2), f.2, λ p. absurd (other ((f.3 p).0 ∙ sym here.0))))),
      ),
      (refl, refl, refl, pair),
    )

pub loads : (slots id : ℕ) (me : Me (Unit {0}) Seen) → me.0.stores ≡ false → Allows Rises slots id me 0 (λ n. n) (Loaded (step slots 0 0 0 none) me)
loads slots id me reads s k len at room =
    let e : ℕ = k.0 in
    let g : ℕ = k.1 in
    let w : Seen = seen me.0.stores e g in
    let all = fits_of s e g k.2 in
    let mine = all id me.0 at in
    let found : slice_index s.words 0 ≡ packed e g = ap (λ l. slice_index l 0) k.2.word in (
      w,
      keeps,
      tt,
      (
        e,
        g,
        kept_of _ e g k.2.pair (ap (λ l. set l 0 (slice_index l 0)) k.2.word)
            (all_set (Fits e g) s.views id w (omega arith, omega arith, refl, λ p. absurd (true≢false (sym p ∙ reads))) (λ j u other a. all j u a)),
      ),
      (refl, refl, sym found, k.2.pair, mine.0, mine.1),
    )

pub confirms : (slots id : ℕ) (me : Me (Unit {0}) Seen) → Allows Rises slots id me 0 (λ n. n) (Confirmed (step slots 0 0 0 none) me)
confirms slots id me s k len at room =
    let e : ℕ = k.0 in
    let g : ℕ = k.1 in
    let w : Seen = record me.0 { agrees = true } in
    let all = fits_of s e g k.2 in
    let mine = all id me.0 at in (
      w,
      keeps,
      tt,
      (
        e,
        g,
        kept_of _ e g k.2.pair (ap (λ l. set l 0 (slice_index l 0)) k.2.word)
            (all_set (Fits e g) s.views id w (mine.0, mine.1, refl, mine.3) (λ j u other a. all j u a)),
      ),
      (refl, refl, mine.2),
    )

pub splits : (id : ℕ) (v : Seen) → Splits Rises id v v (seen false 0 0)
splits id v s k at =
    let e : ℕ = k.0 in
    let g : ℕ = k.1 in
    let all = fits_of s e g k.2 in
    let r : Seen = seen false 0 0 in
    let one : All (Fits e g) (set s.views id v) = all_set (Fits e g) s.views id v (all id v at) (λ j u other a. all j u a) in (
      e,
      g,
      kept_of _ e g k.2.pair k.2.word (λ j u a. ⊎_elim (λ was. one j u was)
          (λ (is : r ≡ u). subst (λ (y : Seen). Fits e g j y) is (omega arith, omega arith, refl, λ p. absurd (true≢false (sym p)))) (at_snoc (set s.views id v) r u j a)),
    )

both_set : (e g id other : ℕ) (views : List Seen) (v w both : Seen) → All (Fits e g) views → get_elem? views id ≡ some v → ¬ (other ≡ id) → get_elem? (set views id both) other ≡ some w
    → (Fits e g other w → Fits e g id both) → All (Fits e g) (set (set views id both) other (seen false 0 0))
both_set e g id other views v w both all at apart at' mine =
    let theirs : Fits e g other w = ⊎_elim (λ x. absurd (apart x.0)) (λ x. all other w x.1) (at_set views id other both w at') in
    let one : All (Fits e g) (set views id both) = all_set (Fits e g) views id both (mine theirs) (λ j u _ a. all j u a) in
    all_set (Fits e g) (set views id both) other (seen false 0 0) (omega arith, omega arith, refl, λ p. absurd (true≢false (sym p))) (λ j u _ a. one j u a)

pub learns : (id : ℕ) (v : Seen) (other : ℕ) (w : Seen) → v.stores ≡ false
    → Joins Rises id v other w (seen v.stores (max v.events w.events) (max v.segments w.segments)) (seen false 0 0)
learns id v other w reads s k at apart at' =
    let e : ℕ = k.0 in
    let g : ℕ = k.1 in
    let all = fits_of s e g k.2 in
    let both : Seen = seen v.stores (max v.events w.events) (max v.segments w.segments) in
    let mine = all id v at in (
      e,
      g,
      kept_of _ e g k.2.pair k.2.word (both_set e g id other s.views v w both all at apart at'
          (λ t. (omega (arith, mine.0, t.0), omega (arith, mine.1, t.1), refl, λ p. absurd (true≢false (sym p ∙ reads))))),
    )

below_is : (w v : Seen) → w.events ≤ v.events → w.segments ≤ v.segments → is_below w v ≡ true
below_is w v a b = grind (arith, nat_tests)

pub is_below_is : (w v : Seen) → is_below w v ≡ true → (w.events ≤ v.events) × (w.segments ≤ v.segments)
is_below_is w v h = grind (arith, nat_tests)

pub retires : (id : ℕ) (v : Seen) (other : ℕ) (w : Seen) → v.stores ≡ true
    → Joins Rises id v other w record v { agrees = is_below w v } (seen false 0 0)
retires id v other w may s k at apart at' =
    let e : ℕ = k.0 in
    let g : ℕ = k.1 in
    let all = fits_of s e g k.2 in
    let both : Seen = record v { agrees = is_below w v } in
    let mine = all id v at in
    let here = mine.3 may in (
      e,
      g,
      kept_of _ e g k.2.pair k.2.word (both_set e g id other s.views v w both all at apart at'
          (λ t. (mine.0, mine.1, below_is w v (omega (arith, t.0, here.1)) (omega (arith, t.1, here.2)), mine.3))),
    )

pub apart : (e g n : ℕ) → packed e g ≡ n → IsPacked e g → (n / 4294967296 ≡ e) × (n % 4294967296 ≡ g)
apart e g n is c = (omega arith, omega arith)

pair_is : (e g e' g' : ℕ) → packed e g ≡ packed e' g' → IsPacked e g → IsPacked e' g' → (e ≡ e') × (g ≡ g')
pair_is e g e' g' is c d = (omega arith, omega arith)

pub stored_is : (slots : ℕ) (v w : Me (Unit {0}) Seen) (e g : ℕ) → Stored (step slots 0 (packed e g) 0 none) v (packed e g) w → IsPacked e g → v.0.stores ≡ true → w.0 ≡ seen true e g
stored_is slots v w e g s c may =
    let p = pair_is w.0.events w.0.segments e g s.2 s.3 c in
    s.1 ∙ (λ i. seen (may i) (p.0 i) (p.1 i))
