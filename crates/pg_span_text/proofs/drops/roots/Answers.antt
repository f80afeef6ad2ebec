use Rattle.std.proofs.Common.{◌≡◌, ◌+◌, ◌-◌, ℕ, List, ap, ◌∙◌}
use Rattle.pg_event.specs.declared.control.Control.{Control}
use Rattle.pg_event.specs.Heads.{Head}
use Rattle.pg_event.specs.Values.{control_at}
use Rattle.pg_span_run.specs.Orders.{Spanned}
use Rattle.pg_span_text.specs.Drops.{put_root, roots_from}
use Rattle.pg_span_text.proofs.Controls.{control_next, roots_more}
use Rattle.pg_span_text.proofs.drops.roots.Goals as goal

pub loop-i-preserved : goal.loop-i-preserved
loop-i-preserved c =
    let s : Spanned = c.args.run.now in
    let p = c.args.p in
    let pcid = c.args.pcid in
    let from = c.args.from in
    let i = c.loop-i.i in
    let same : c.header.inside.cfg.m ≡ s.head.cfg.m = ap (λ (h : Head). h.cfg.m) (c.header.view_is ∙ c.header-header.ensures.header) in
    let control : c.controlled-control.result ≡ control_at s.head s.events p (i + 1) =
    control_next s.head s.events p i c.header.inside.cfg.m c.loop-i.control c.controlled-control.result c.event_of.result.now c.event_of.ensures same c.loop-i.invariant.control c.controlled-control.ensures in
    record {
      control = control;
      tables = c.in_ok-put_root-2.ensures
          ∙ (ap (λ (ts : List ℕ). put_root pcid ts c.controlled-control.result) c.loop-i.invariant.tables
          ∙ (ap (λ (k : Control). put_root pcid (roots_from s p pcid from (i - from)) k) control
          ∙ roots_more s p pcid from i c.loop-i.auto.i));
    }
