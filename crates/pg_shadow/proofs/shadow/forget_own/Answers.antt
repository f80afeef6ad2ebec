use Rattle.std.proofs.Common.{cond, sym}
use Rattle.pg_shadow.specs.Slots.{no_slot}
use Rattle.pg_shadow.specs.Left.{is_on_path}
use Rattle.pg_shadow.proofs.Spaces.{IsChangedOwn-absent, forgets_nothing}
use Rattle.pg_shadow.proofs.shadow.forget_own.Goals as goal

pub returns-in-None : goal.returns-in-None
returns-in-None c =
    rw c.get_mut.follows.holds-at-none
    (IsChangedOwn-absent (λ l n s. cond (is_on_path l n c.args.la) no_slot s) c.args.pcid c.args.own.now.entries (sym c.in-None.ensures.value)
    (λ l n. forgets_nothing (is_on_path l n c.args.la)))
