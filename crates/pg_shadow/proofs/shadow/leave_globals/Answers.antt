use Rattle.std.proofs.Common.{None, cond, ◌∙◌, ap, sym, List}
use Rattle.pg_shadow.specs.declared.slot.Slot.{Slot}
use Rattle.pg_shadow.specs.Pages.{Sheet}
use Rattle.pg_shadow.specs.Spaces.{slot_in}
use Rattle.pg_shadow.proofs.Left.{IsLeftGlobals-by}
use Rattle.pg_shadow.proofs.Spaces.{slot_in-nothing}
use Rattle.pg_shadow.proofs.shadow.leave_globals.Goals as goal

pub returns-then-takes-2 : goal.returns-then-takes-2
returns-then-takes-2 c =
    let old : List Sheet = c.args.globals.now in
    IsLeftGlobals-by c.args.invalidation old c.clear.new.self _ (sym c.in-Everything.is)
    (λ l n.
    ap (λ (s : List Sheet). (slot_in s l n).translation) c.clear.ensures
    ∙ ap (λ (s : Slot). s.translation) (slot_in-nothing l n)
    ∙ ap (λ b. cond b None (slot_in old l n).translation) (sym c.if-takes-2.true))
