use Rattle.std.proofs.Common.{◌^◌, ◌<◌, ap, sym, subst, ◌∙◌}
use Rattle.std.specs.Option.{unwrap_or}
use Rattle.pg_event.specs.declared.control.Control.{Control}
use Rattle.pg_event.specs.Values.{control_at}
use Rattle.pg_timeline.specs.Timelines.{last_before}
use Rattle.pg_timeline.proofs.Spans.{IsSpan-same}
use Rattle.pg_state.specs.Controls.{Registers, changes_of, control_in, start_in}
use Rattle.pg_state.proofs.Known.{control_in-low}
use Rattle.pg_state.proofs.controls.Controls.control_span.Goals as goal

pub returns-clause-value : goal.returns-clause-value
returns-clause-value c =
    let changes = c.changes_at.result.now in
    let p = c.args.p in
    let start : Control = start_in c.args.self.now.head p in
    IsSpan-same (λ w. unwrap_or (last_before w changes) c.start.result) (λ w. control_in c.args.self.now p w) c.args.moment c.span_at.result
    (λ w. ap (λ (r : Registers). unwrap_or (last_before w (changes_of r.changes p)) start) (sym c.self.view_is)
    ∙ ap (λ xs. unwrap_or (last_before w xs) start) (sym c.changes_at.ensures)
    ∙ ap (λ (s : Control). unwrap_or (last_before w changes) s) (sym c.start.ensures))
    c.span_at.ensures.span

pub returns-clause-run : goal.returns-clause-run
returns-clause-run c = λ head events h.
    IsSpan-same (λ w. control_in c.args.self.now c.args.p w) (λ w. control_at head events c.args.p w) c.args.moment c.span_at.result
    (λ w. sym (h.controls c.args.p w)) (returns-clause-value c)

pub returns-clause-root : goal.returns-clause-root
returns-clause-root c =
    let span = returns-clause-value c in
    subst (λ (x : Control). x.root < 2 ^ 52) (span.same c.args.moment span.low span.high)
    (rw (← c.self.view_is) (control_in-low _ c.args.p c.args.moment c.self.invariant.0))
