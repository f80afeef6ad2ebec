-- A walk goes on by one reading.
use Rattle.std.proofs.Common.{◌≡◌, ℕ, false, ◌==◌, List, [], ◌∷◌, ap, refl, ◌∙◌, length}
use Rattle.pg_entry.specs.declared.Level.{Level}
use Rattle.pg_event.specs.declared.event.Event.{Event}
use Rattle.pg_event.specs.declared.event.Want.{Want}
use Rattle.pg_event.specs.Heads.{Head}
use Rattle.pg_event.specs.Values.{mem_at}
use Rattle.pg_event.specs.Walk.{below}
use Rattle.pg_event.specs.declared.walk.Parent.{Parent}
use Rattle.pg_run_of.specs.declared.fill.Fill.{Fill}
use Rattle.pg_run_of.specs.declared.visit.Visit.{Visit}
use Rattle.pg_run_of.specs.Plan.{fill_by, fills_from}
use Rattle.pg_run_of.proofs.Standing.{given}

-- where a walk is one level below, by the value that it reads at a moment
abbrev pub gone : Head → List Event → Visit → ℕ → Visit
gone head all v x = record { p = v.p; la = v.la; level = below v.level; from = given head.cfg.m (mem_at all) v.la v.level v.from x }

hop : (head : Head) (all : List Event) (want : Want) (v : Visit) (x : ℕ) (ws : List ℕ) → false ≡ (length ws == 0) →
    fill_by false v.p v.la v.level v.from x ∷ fills_from head all want (gone head all v x) ws ≡ fills_from head all want v (x ∷ ws)
hop head all want v x [] more = absurd (cc)
hop head all want v x (y ∷ ws) more = refl

-- the same, by what the code knows of the visit below
pub hop_made : (head : Head) (all : List Event) (want : Want) (v next : Visit) (x : ℕ) (ws : List ℕ) → false ≡ (length ws == 0) →
    next.p ≡ v.p → next.la ≡ v.la → next.level ≡ below v.level → next.from ≡ given head.cfg.m (mem_at all) v.la v.level v.from x →
    fill_by false v.p v.la v.level v.from x ∷ fills_from head all want next ws ≡ fills_from head all want v (x ∷ ws)
hop_made head all want v next x ws more p la level from =
    let here : Fill = fill_by false v.p v.la v.level v.from x in
    let on : ℕ → ℕ → Level → Parent → List Fill = λ q a l f. let u : Visit = record { p = q; la = a; level = l; from = f } in here ∷ fills_from head all want u ws in
    ap (λ (q : ℕ). on q next.la next.level next.from) p ∙ ap (λ (a : ℕ). on v.p a next.level next.from) la
    ∙ ap (λ (l : Level). on v.p v.la l next.from) level ∙ ap (λ (f : Parent). on v.p v.la (below v.level) f) from
    ∙ hop head all want v x ws more
