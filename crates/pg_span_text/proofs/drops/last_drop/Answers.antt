use Rattle.std.proofs.Common.{◌≡◌, cond, Option, Some, ap, sym, ◌∙◌, Bool}
use Rattle.pg_entry.specs.declared.Rules.{Rules}
use Rattle.pg_event.specs.declared.control.Control.{Control}
use Rattle.pg_event.specs.declared.event.Event.{Event}
use Rattle.pg_event.specs.Heads.{Head}
use Rattle.pg_event.specs.Values.{control_at}
use Rattle.pg_span_run.specs.Orders.{Spanned}
use Rattle.pg_span_text.specs.Drops.{drops_by, drops_by_some, drops_at}
use Rattle.pg_span_text.proofs.Controls.{control_next, last_next, within_next}
use Rattle.pg_span_text.proofs.drops.last_drop.Goals as goal
use Rattle.pg_span_text.proofs.drops.last_drop.Goals.{then-drops_by, else-drops_by}

pub loop-i-preserved : goal.loop-i-preserved
loop-i-preserved c =
    let s : Spanned = c.args.run.now in
    let p = c.args.p in
    let pcid = c.args.pcid in
    let la = c.args.la in
    let i = c.loop-i.i in
    let e : Event = c.event_of-event.result.now in
    let same : c.header.inside.cfg.m ≡ s.head.cfg.m = ap (λ (h : Head). h.cfg.m) (c.header.view_is ∙ c.header-header.ensures.header) in
    let held : c.header.inside.cfg.rules ≡ s.head.cfg.rules = ap (λ (h : Head). h.cfg.rules) (c.header.view_is ∙ c.header-header.ensures.header) in
    let drops : c.drops_by.result ≡ drops_at s p pcid la i =
    c.drops_by.ensures
    ∙ ap (λ (r : Rules). drops_by r c.loop-i.control p pcid la e) held
    ∙ (ap (λ (k : Control). drops_by s.head.cfg.rules k p pcid la e) c.loop-i.invariant.control
    ∙ sym (ap (λ (o : Option Event). drops_by_some s.head.cfg.rules (control_at s.head s.events p i) p pcid la o) c.event_of-event.ensures)) in
    let now : c.if-drops_by.last ≡ cond c.drops_by.result (Some i) c.loop-i.last =
    elim c.if-drops_by.branch [
      | then-drops_by w ↦ w.last-is ∙ sym (ap (λ (b : Bool). cond b (Some i) c.loop-i.last) w.if-drops_by.true)
      | else-drops_by w ↦ w.last-is ∙ sym (ap (λ (b : Bool). cond b (Some i) c.loop-i.last) w.if-drops_by.false)
    ] in
    record {
      control = control_next s.head s.events p i c.header.inside.cfg.m c.loop-i.control c.controlled-control.result e c.event_of-event.ensures same c.loop-i.invariant.control c.controlled-control.ensures;
      last = last_next (drops_at s p pcid la) i c.loop-i.last c.if-drops_by.last c.drops_by.result drops c.loop-i.invariant.last now;
      within = within_next i c.drops_by.result c.loop-i.last c.if-drops_by.last now c.loop-i.invariant.within;
    }
