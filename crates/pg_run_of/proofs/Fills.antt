-- The fills of walks and events, by moments.
use Rattle.std.proofs.Common.{Bool, ◌≡◌, ℕ, ◌+◌, ◌<◌, ◌≤◌, ◌==◌, List, [], ◌∷◌, ◌++◌, refl, ap, sym, ◌∙◌, subst, true, false, cond, inl, inr, arith, length, map, nat_le, suc}
use Rattle.std.proofs.lemmas.Bool.{and_parts, eq-eqb, ne_eqb, leb-true, cases_eq}
use Rattle.std.proofs.lemmas.List.{map-append, length-append}
use Rattle.std.proofs.lemmas.List.Elements.{filter-append}
use Rattle.std.specs.Prelude.{filter}
use Rattle.pg_entry.specs.declared.Level.{Level}
use Rattle.pg_entry.specs.declared.Level.TheVariants.{Four, Three, Two, One}
use Rattle.pg_entry.specs.Kinds.{table_of}
use Rattle.pg_entry.specs.Permission.{joined}
use Rattle.pg_event.specs.declared.event.Event.{Event}
use Rattle.pg_event.specs.declared.event.Want.{Want}
use Rattle.pg_event.specs.declared.event.Want.TheVariants as wants
use Rattle.pg_event.specs.Heads.{Head}
use Rattle.pg_event.specs.Walk.{Reading, readings, below, entry_address}
use Rattle.pg_event.specs.Witness.{is_in_order, last_or}
use Rattle.pg_event.specs.declared.walk.Parent.{Parent}
use Rattle.pg_machine.specs.declared.step.Step.{Step}
use Rattle.pg_machine.specs.declared.step.Step.TheVariants.{FillLeaf, Do}
use Rattle.pg_machine.specs.Machine.{visible}
use Rattle.pg_run_of.specs.declared.fill.Fill.{Fill}
use Rattle.pg_run_of.specs.Plan.{fill_by, step_of, table_fill, leaf_fills, parent_of, walk_fills, fills_of, fills_at, steps_from, steps_of, is_drop, DropsNothing}
use Rattle.pg_run_of.proofs.Paths.{visible-append}

-- a fill at a moment, and one at another
pub fills_here : (w : ℕ) (f : Fill) (fs : List Fill) → f.moment ≡ w → fills_at w (f ∷ fs) ≡ step_of f ∷ fills_at w fs
fills_here w f fs e = ap (λ b. map step_of (cond b (f ∷ filter (λ g. g.moment == w) fs) (filter (λ g. g.moment == w) fs))) (eq-eqb f.moment w e)

pub fills_away : (w : ℕ) (f : Fill) (fs : List Fill) → (f.moment ≡ w → ⊥) → fills_at w (f ∷ fs) ≡ fills_at w fs
fills_away w f fs ne = ap (λ b. map step_of (cond b (f ∷ filter (λ g. g.moment == w) fs) (filter (λ g. g.moment == w) fs))) (ne_eqb f.moment w ne)

pub fills-append : (w : ℕ) (xs ys : List Fill) → fills_at w (xs ++ ys) ≡ fills_at w xs ++ fills_at w ys
fills-append w xs ys = ap (map step_of) (filter-append (λ (g : Fill). g.moment == w) xs ys) ∙ map-append step_of (filter (λ g. g.moment == w) xs) (filter (λ g. g.moment == w) ys)

-- the fills of a walk but that of its leaf, and the table that it reads last
abbrev pub table_fills : ℕ → ℕ → ℕ → Parent → List Reading → List Fill
table_fills m p la from [] = []
table_fills m p la from (r ∷ []) = []
table_fills m p la from (r ∷ s ∷ rs) = fill_by false p la r.level from r.moment ∷ table_fills m p la (parent_of m r) (s ∷ rs)

abbrev pub last_parent : ℕ → Parent → Reading → List Reading → Parent
last_parent m from r [] = from
last_parent m from r (s ∷ rs) = last_parent m (parent_of m r) s rs

pub walk_parts : (m : ℕ) (want : Want) (p la : ℕ) (from : Parent) (r : Reading) (rs : List Reading) →
    walk_fills m want p la from (r ∷ rs) ≡ table_fills m p la from (r ∷ rs) ++ leaf_fills want p la (last_or r rs).level (last_parent m from r rs) (last_or r rs).moment
walk_parts m want p la from r [] = refl
walk_parts m want p la from r (s ∷ rs) = ap (λ fs. fill_by false p la r.level from r.moment ∷ fs) (walk_parts m want p la (parent_of m r) s rs)

-- an access has no fill after its event
first_low : (x i : ℕ) (ws : List ℕ) → is_in_order (x ∷ ws) i ≡ true → x ≤ i
first_low x i [] h = leb-true x i h
first_low x i (y ∷ ys) h =
    let parts = and_parts (nat_le x y) (is_in_order (y ∷ ys) i) h in
    let one : x ≤ y = leb-true x y parts.0 in
    let more : y ≤ i = first_low y i ys parts.1 in
    omega (arith, one, more)

no_leaf_after : (want : Want) (p la v : ℕ) (level : Level) (from : Parent) (w : ℕ) → w < v → fills_at v (leaf_fills want p la level from w) ≡ []
no_leaf_after wants.Leaf p la v level from w lt = fills_away v (fill_by true p la level from w) [] (λ e. absurd (omega (arith, lt, e)))
no_leaf_after wants.Absent p la v level from w lt = refl
no_leaf_after wants.Reserved p la v level from w lt = refl
no_leaf_after wants.Present p la v level from w lt = refl

pub no_fills_after : (m : ℕ) (want : Want) (look : ℕ → ℕ → ℕ) (p la i v : ℕ) → i < v → (level : Level) (from : Parent) (x : ℕ) (ws : List ℕ) → is_in_order (x ∷ ws) i ≡ true →
    fills_at v (walk_fills m want p la from (readings m look la level from.table from.rights (x ∷ ws))) ≡ []
no_fills_after m want look p la i v lt level from x [] h =
    let low : x ≤ i = first_low x i [] h in
    no_leaf_after want p la v level from x (omega (arith, low, lt))
no_fills_after m want look p la i v lt level from x (y ∷ ys) h =
    let low : x ≤ i = first_low x i (y ∷ ys) h in
    let value : ℕ = look x (entry_address from.table level la) in
    let down : Parent = record { table = table_of m value; rights = joined from.rights value } in
    fills_away v (fill_by false p la level from x) (walk_fills m want p la down (readings m look la (below level) down.table down.rights (y ∷ ys)))
    (λ e. absurd (omega (arith, low, lt, e)))
    ∙ no_fills_after m want look p la i v lt (below level) down y ys (and_parts (nat_le x y) (is_in_order (y ∷ ys) i) h).1

-- a fill is no event, and drops nothing
abbrev pub IsQuiet : Step → Type 0
IsQuiet step = (visible (step ∷ []) ≡ []) × (is_drop step ≡ false)

quiet : (is_leaf : Bool) (p la : ℕ) (level : Level) (from : Parent) → IsQuiet (cond is_leaf (FillLeaf p la level from) (table_fill p la level from))
quiet true p la level from = (refl, refl)
quiet false p la Four from = (refl, refl)
quiet false p la Three from = (refl, refl)
quiet false p la Two from = (refl, refl)
quiet false p la One from = (refl, refl)

is_quiet : (f : Fill) → IsQuiet (step_of f)
is_quiet f = quiet f.is_leaf f.visit.p f.visit.la f.visit.level f.visit.from

-- events and fills, without the fills
visible_fills : (w : ℕ) (fs : List Fill) (steps : List Step) → visible (fills_at w fs ++ steps) ≡ visible steps
visible_fills w [] steps = refl
visible_fills w (f ∷ fs) steps =
    elim (cases_eq f.moment w) [
      | inl here ↦ ap (λ xs. visible (xs ++ steps)) (fills_here w f fs here) ∙ visible-append (step_of f ∷ []) (fills_at w fs ++ steps)
          ∙ ap (λ xs. xs ++ visible (fills_at w fs ++ steps)) (is_quiet f).0 ∙ visible_fills w fs steps
      | inr away ↦ ap (λ xs. visible (xs ++ steps)) (fills_away w f fs away) ∙ visible_fills w fs steps
    ]

visible_steps : (fs : List Fill) (w : ℕ) (es : List Event) → visible (steps_from fs w es) ≡ es
visible_steps fs w [] = refl
visible_steps fs w (e ∷ es) = visible_fills w fs (Do e ∷ steps_from fs (w + 1) es) ∙ ap (λ xs. e ∷ xs) (visible_steps fs (w + 1) es)

pub plan_visible : (head : Head) (es : List Event) → visible (steps_of head es) ≡ es
plan_visible head es = visible_steps (fills_of head es) 0 es

-- nothing is dropped
no_drops_at : (w : ℕ) (fs : List Fill) (steps : List Step) → DropsNothing steps → DropsNothing (fills_at w fs ++ steps)
no_drops_at w [] steps k = k
no_drops_at w (f ∷ fs) steps k =
    elim (cases_eq f.moment w) [
      | inl here ↦ subst (λ xs. DropsNothing (xs ++ steps)) (sym (fills_here w f fs here)) ((is_quiet f).1, no_drops_at w fs steps k)
      | inr away ↦ subst (λ xs. DropsNothing (xs ++ steps)) (sym (fills_away w f fs away)) (no_drops_at w fs steps k)
    ]

no_drops_from : (fs : List Fill) (w : ℕ) (es : List Event) → DropsNothing (steps_from fs w es)
no_drops_from fs w [] = tt
no_drops_from fs w (e ∷ es) = no_drops_at w fs (Do e ∷ steps_from fs (w + 1) es) (refl, no_drops_from fs (w + 1) es)

pub plan_keeps : (head : Head) (es : List Event) → DropsNothing (steps_of head es)
plan_keeps head es = no_drops_from (fills_of head es) 0 es

-- a fill is one step at most
past_fill : (f : Fill) (fs : List Fill) (w : ℕ) (es : List Event) → f.moment < w → steps_from (f ∷ fs) w es ≡ steps_from fs w es
past_fill f fs w [] lt = refl
past_fill f fs w (e ∷ es) lt =
    ap (λ xs. xs ++ Do e ∷ steps_from (f ∷ fs) (w + 1) es) (fills_away w f fs (λ same. absurd (omega (arith, lt, same))))
    ∙ ap (λ xs. fills_at w fs ++ Do e ∷ xs) (past_fill f fs (w + 1) es (omega (arith, lt)))

one_fill : (f : Fill) (fs : List Fill) (w : ℕ) (es : List Event) → length (steps_from (f ∷ fs) w es) ≤ 1 + length (steps_from fs w es)
one_fill f fs w [] = omega arith
one_fill f fs w (e ∷ es) =
    let before : List Step = fills_at w fs in
    let long : length (before ++ Do e ∷ steps_from fs (w + 1) es) ≡ length before + suc (length (steps_from fs (w + 1) es)) = length-append before (Do e ∷ steps_from fs (w + 1) es) in
    elim (cases_eq f.moment w) [
      | inl here ↦
          let all : fills_at w (f ∷ fs) ++ Do e ∷ steps_from (f ∷ fs) (w + 1) es ≡ step_of f ∷ (before ++ Do e ∷ steps_from fs (w + 1) es) =
          ap (λ xs. xs ++ Do e ∷ steps_from (f ∷ fs) (w + 1) es) (fills_here w f fs here)
          ∙ ap (λ xs. step_of f ∷ (before ++ Do e ∷ xs)) (past_fill f fs (w + 1) es (omega (arith, here))) in
          let count : length (fills_at w (f ∷ fs) ++ Do e ∷ steps_from (f ∷ fs) (w + 1) es) ≡ suc (length (before ++ Do e ∷ steps_from fs (w + 1) es)) = ap length all in
          omega (arith, count)
      | inr away ↦
          let all : fills_at w (f ∷ fs) ++ Do e ∷ steps_from (f ∷ fs) (w + 1) es ≡ before ++ Do e ∷ steps_from (f ∷ fs) (w + 1) es =
          ap (λ xs. xs ++ Do e ∷ steps_from (f ∷ fs) (w + 1) es) (fills_away w f fs away) in
          let count : length (fills_at w (f ∷ fs) ++ Do e ∷ steps_from (f ∷ fs) (w + 1) es) ≡ length before + suc (length (steps_from (f ∷ fs) (w + 1) es)) =
          ap length all ∙ length-append before (Do e ∷ steps_from (f ∷ fs) (w + 1) es) in
          let more : length (steps_from (f ∷ fs) (w + 1) es) ≤ 1 + length (steps_from fs (w + 1) es) = one_fill f fs (w + 1) es in
          omega (arith, count, long, more)
    ]

pub steps_few : (fs : List Fill) (w : ℕ) (es : List Event) → length (steps_from fs w es) ≤ length fs + length es
steps_few [] w [] = omega arith
steps_few [] w (e ∷ es) = let more : length (steps_from [] (w + 1) es) ≤ 0 + length es = steps_few [] (w + 1) es in omega (arith, more)
steps_few (f ∷ fs) w es =
    let one : length (steps_from (f ∷ fs) w es) ≤ 1 + length (steps_from fs w es) = one_fill f fs w es in
    let more : length (steps_from fs w es) ≤ length fs + length es = steps_few fs w es in
    omega (arith, one, more)

-- steps by fills that are the same at each moment
pub placed_alike : (fs gs : List Fill) → ((w : ℕ) → fills_at w fs ≡ fills_at w gs) → (w : ℕ) (es : List Event) → steps_from fs w es ≡ steps_from gs w es
placed_alike fs gs same w [] = refl
placed_alike fs gs same w (e ∷ es) =
    ap (λ xs. xs ++ Do e ∷ steps_from fs (w + 1) es) (same w) ∙ ap (λ xs. fills_at w gs ++ Do e ∷ xs) (placed_alike fs gs same (w + 1) es)

-- the steps by all fills, sorted
pub plan_is : (head : Head) (es : List Event) (made sorted fs : List Fill) → made ≡ fills_of head es → ((w : ℕ) → fills_at w sorted ≡ fills_at w made) → fs ≡ sorted →
    steps_from fs 0 es ≡ steps_of head es
plan_is head es made sorted fs all same read =
    ap (λ gs. steps_from gs 0 es) read ∙ placed_alike sorted made same 0 es ∙ ap (λ gs. steps_from gs 0 es) all
