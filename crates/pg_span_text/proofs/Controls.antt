-- Control registers, event by event, the last event that drops a page, and the roots since.
use Rattle.std.proofs.Common.{◌≡◌, ℕ, suc, ◌+◌, ◌-◌, ◌<◌, ◌≤◌, Bool, true, false, cond, List, get_or, Option, Some, ap, sym, ◌∙◌, arith, add-one}
use Rattle.std.specs.Prelude.{slice_get}
use Rattle.std.proofs.lemmas.List.Sums.{fold_more}
use Rattle.std.proofs.lemmas.Option.{get_or_from_slice_get, slice_get_within}
use Rattle.pg_event.specs.declared.control.Control.{Control}
use Rattle.pg_event.specs.declared.event.Event.{Event}
use Rattle.pg_event.specs.Heads.{Head}
use Rattle.pg_event.specs.Values.{controlled, started, control_at}
use Rattle.pg_span_run.specs.Orders.{Spanned}
use Rattle.pg_span_text.specs.Drops.{put_root, roots_from, last_below}

control_more : (head : Head) (events : List Event) (p i : ℕ) (e : Event) → slice_get events i ≡ Some e →
    control_at head events p (i + 1) ≡ controlled head.cfg.m p (control_at head events p i) e
control_more head events p i e there =
    let got : get_or events i e ≡ e = get_or_from_slice_get events i e e there in
    fold_more (controlled head.cfg.m p) (started head.cfg.m (slice_get head.processors p)) events i e (slice_get_within events i e there)
    ∙ ap (controlled head.cfg.m p (control_at head events p i)) got

-- after one more event
pub control_next : (head : Head) (events : List Event) (p i m : ℕ) (was now : Control) (e : Event) → slice_get events i ≡ Some e → m ≡ head.cfg.m →
    was ≡ control_at head events p i → now ≡ controlled m p was e → now ≡ control_at head events p (i + 1)
control_next head events p i m was now e there same before after =
    after
    ∙ (ap (λ k. controlled k p was e) same
    ∙ (ap (λ (c : Control). controlled head.cfg.m p c e) before
    ∙ sym (control_more head events p i e there)))

-- the last of one more number
pub last_next : (test : ℕ → Bool) (i : ℕ) (was now : Option ℕ) (b : Bool) → b ≡ test i → was ≡ last_below test i → now ≡ cond b (Some i) was → now ≡ last_below test (i + 1)
last_next test i was now b is before after =
    after
    ∙ (ap (λ (c : Bool). cond c (Some i) was) is
    ∙ (ap (λ (o : Option ℕ). cond (test i) (Some i) o) before
    ∙ sym (ap (last_below test) (add-one i))))

pub within_next : (i : ℕ) (b : Bool) (was now : Option ℕ) → now ≡ cond b (Some i) was → ((x : ℕ) → was ≡ Some x → x < i) → (x : ℕ) → now ≡ Some x → x < i + 1
within_next i true was now is below x at = let e : i ≡ x = cc (is, at) in omega arith
within_next i false was now is below x at = let l : x < i = below x (sym is ∙ at) in omega arith

-- with the root just before one more event
pub roots_more : (s : Spanned) (p pcid from i : ℕ) → from ≤ i →
    put_root pcid (roots_from s p pcid from (i - from)) (control_at s.head s.events p (i + 1)) ≡ roots_from s p pcid from (i + 1 - from)
roots_more s p pcid from i le =
    let next : i + 1 - from ≡ suc (i - from) = omega arith in
    let at : from + suc (i - from) ≡ i + 1 = omega arith in
    ap (λ k. put_root pcid (roots_from s p pcid from (i - from)) (control_at s.head s.events p k)) (sym at)
    ∙ ap (roots_from s p pcid from) (sym next)
