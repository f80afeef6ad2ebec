use Rattle.std.proofs.Common.{◌≡◌, ap, ◌∙◌}
use Rattle.pg_event.specs.Heads.{Head}
use Rattle.pg_span_run.specs.Orders.{Spanned}
use Rattle.pg_span_text.proofs.Controls.{control_next}
use Rattle.pg_span_text.proofs.drops.control_before.Goals as goal

pub loop-i-preserved : goal.loop-i-preserved
loop-i-preserved c =
    let s : Spanned = c.args.run.now in
    let same : c.header.inside.cfg.m ≡ s.head.cfg.m = ap (λ (h : Head). h.cfg.m) (c.header.view_is ∙ c.header-header.ensures.header) in
    control_next s.head s.events c.args.p c.loop-i.i c.header.inside.cfg.m c.loop-i.control c.controlled-control.result c.event_of.result.now c.event_of.ensures same c.loop-i.invariant c.controlled-control.ensures
