use Rattle.std.proofs.Common.{ap, sym, subst, arith, slice_get}
use Rattle.pg_event.specs.Values.{started}
use Rattle.pg_event.specs.Heads.{Head}
use Rattle.pg_shadow.specs.Caches.{AreInRange}
use Rattle.pg_shadow.proofs.Ranges.{AreInRange-empty, started-block}
use Rattle.pg_shadow.proofs.Shadows.{seen-start}
use Rattle.pg_shadow.proofs.shadow.Shadow.new.Goals as goal

pub returns : goal.returns
returns c =
    let head : Head = c.args.header.now in
    seen-start c.header.inside.cfg.m head.cfg.m c.started.result (started head.cfg.m (slice_get head.processors c.args.p)) c.new.result.entries c.new-2.result
    (ap (λ (d : Head). d.cfg.m) c.header.view_is) c.started.ensures c.new.ensures.empty c.new-2.ensures

pub invariant_of-result : goal.invariant_of-result
invariant_of-result c =
    let head : Head = c.args.header.now in
    subst AreInRange (sym (returns c))
    (AreInRange-empty head.cfg.m (started head.cfg.m (slice_get head.processors c.args.p)) c.requires.head.low c.requires.head.high
    (started-block head.cfg.m (slice_get head.processors c.args.p) (omega (arith, c.requires.head.low))))
