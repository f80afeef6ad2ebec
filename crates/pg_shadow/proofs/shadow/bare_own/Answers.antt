use Rattle.std.proofs.Common.{refl, sym}
use Rattle.pg_shadow.specs.Slots.{bare}
use Rattle.pg_shadow.proofs.Spaces.{IsChangedOwn-absent}
use Rattle.pg_shadow.proofs.shadow.bare_own.Goals as goal

pub returns-in-None : goal.returns-in-None
returns-in-None c =
    rw c.get_mut.follows.holds-at-none
    (IsChangedOwn-absent (λ l n s. bare s) c.args.pcid c.args.own.now.entries (sym c.in-None.ensures.value) (λ l n. refl))
