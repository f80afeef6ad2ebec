-- Control registers from one moment to the next.
use Rattle.std.proofs.Common.{◌≡◌, ℕ, zero, suc, ◌+◌, List, [], ◌∷◌, ◌++◌, take, ap, ◌∙◌, arith, Some}
use Rattle.std.specs.Prelude.{slice_get, fold}
use Rattle.std.proofs.lemmas.List.Sums.{fold-append}
use Rattle.pg_event.specs.declared.control.Control.{Control}
use Rattle.pg_event.specs.declared.event.Event.{Event}
use Rattle.pg_event.specs.Heads.{Head}
use Rattle.pg_event.specs.Values.{controlled, started, control_at}

pub take_next : (events : List Event) (w : ℕ) (e : Event) → slice_get events w ≡ Some e → take (suc w) events ≡ take w events ++ e ∷ []
take_next [] w e h = absurd (cc)
take_next (x ∷ xs) zero e h = let same : x ≡ e = cc in ap (λ y. y ∷ []) same
take_next (x ∷ xs) (suc w) e h = ap (λ ys. x ∷ ys) (take_next xs w e h)

pub next_control : (head : Head) (events : List Event) (p w : ℕ) (e : Event) → slice_get events w ≡ Some e →
    control_at head events p (w + 1) ≡ controlled head.cfg.m p (control_at head events p w) e
next_control head events p w e at =
    let first : Control = started head.cfg.m (slice_get head.processors p) in
    let n : w + 1 ≡ suc w = omega arith in
    ap (λ k. control_at head events p k) n ∙ ap (fold (controlled head.cfg.m p) first) (take_next events w e at)
    ∙ fold-append (controlled head.cfg.m p) first (take w events) (e ∷ [])
