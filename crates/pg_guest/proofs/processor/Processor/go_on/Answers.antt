use Rattle.std.proofs.Common.{◌≡◌, ◌≤◌, ℕ, sym, ◌∙◌, ap, subst, arith}
use Rattle.pg_event.specs.declared.control.Control.{Control}
use Rattle.pg_shadow.specs.Caches.{IsBlock}
use Rattle.pg_shadow.specs.Find.{IsInRange}
use Rattle.pg_shadow.specs.Held.{seen as cached}
use Rattle.pg_guest.specs.Held.{Held}
use Rattle.pg_guest.proofs.Reach.{root_walk, table_walk, small_page}
use Rattle.pg_guest.proofs.processor.Processor.go_on.Goals as goal

pub address_in-address-requires-clause-frame : goal.address_in-address-requires-clause-frame
address_in-address-requires-clause-frame c =
    let width : ℕ = (cached c.args.self.now.shadow).width in
    let same : (cached c.self.inside.shadow).width ≡ width = ap (λ (h : Held). (cached h.shadow).width) c.self.view_is in
    let most : width ≤ 52 = omega (arith, same, c.control-control.ensures.range.most) in
    (small_page width c.in-Hit.shift c.in-Hit.frame c.in-Hit.moments most (subst (IsInRange width) c.in-Hit.is c.requires.way)).frame_below

pub read-requires-clause-walk : goal.read-requires-clause-walk
read-requires-clause-walk c =
    let width : ℕ = (cached c.args.self.now.shadow).width in
    rw c.from_table-walk.ensures
    (table_walk c.args.world.now.head c.args.self.now.number c.args.flags c.args.la width c.access_kind-kind.result c.in-Partial.level c.in-Partial.table c.in-Partial.rights c.in-Partial.moments
    c.requires.well c.requires.width (subst (IsInRange width) c.in-Partial.is c.requires.way))

pub read-requires-in-Miss-clause-walk : goal.read-requires-in-Miss-clause-walk
read-requires-in-Miss-clause-walk c =
    let width : ℕ = (cached c.self.inside.shadow).width in
    let same : width ≡ c.args.world.now.head.cfg.m = ap (λ (h : Held). (cached h.shadow).width) c.self.view_is ∙ c.requires.width in
    let root : IsBlock width 12 c.control-control.result.root = subst (λ (d : Control). IsBlock width 12 d.root) (sym c.control-control.ensures.value) c.control-control.ensures.range.root in
    rw c.from_root.ensures
    (root_walk c.args.world.now.head c.args.self.now.number c.args.flags c.args.la width c.control-control.result c.access_kind-kind.result c.requires.well same root)
