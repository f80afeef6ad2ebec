use Rattle.std.proofs.Common.{◌≡◌, ◌<◌, ◌≤◌, ◌^◌, length, sym, ap, subst, ◌∙◌, arith, None}
use Rattle.std.specs.Prelude.{slice_get}
use Rattle.pg_entry.proofs.Bounds.{field-below}
use Rattle.pg_event.specs.declared.control.Control.{Control}
use Rattle.pg_event.specs.Heads.{Head}
use Rattle.pg_event.specs.Values.{started}
use Rattle.pg_span_run.specs.Orders.{Spanned}
use Rattle.pg_span_run.proofs.Places.{none_at}
use Rattle.pg_span_run.proofs.start.started.Goals as goal

pub returns-then-p-len-clause-within : goal.returns-then-p-len-clause-within
returns-then-p-len-clause-within c =
    let m : c.header.inside.cfg.m ≡ c.args.run.now.head.cfg.m = ap (λ (h : Head). h.cfg.m) (c.header.view_is ∙ c.header-header.ensures.header) in
    let low : 36 ≤ c.args.run.now.head.cfg.m = c.header-header.ensures.head.low in
    let high : c.args.run.now.head.cfg.m ≤ 52 = c.header-header.ensures.head.high in
    subst (λ (d : Control). d.root < 2 ^ 52) (sym c.loaded.ensures)
    (field-below c.index-start.result.now.0 12 c.header.inside.cfg.m (omega (arith, m, low)) (omega (arith, m, high)))

pub returns-else-p-len-clause-value : goal.returns-else-p-len-clause-value
returns-else-p-len-clause-value c =
    let s : Spanned = c.args.run.now in
    let count : length c.header.inside.processors.items ≡ length s.head.processors = ap (λ (h : Head). length h.processors) (c.header.view_is ∙ c.header-header.ensures.header) in
    let none : slice_get s.head.processors c.args.p ≡ None = none_at s.head.processors c.args.p (omega (arith, count, c.len.ensures, c.if-p-len.false)) in
    sym (ap (started s.head.cfg.m) none)
