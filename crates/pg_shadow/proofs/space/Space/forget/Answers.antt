use Rattle.std.proofs.Common.{ℕ, subst, List}
use Rattle.pg_entry.specs.declared.Level.{Level}
use Rattle.pg_entry.specs.declared.Level.TheVariants.{Four, Three, Two, One}
use Rattle.pg_shadow.specs.declared.slot.KeptEntry.TheVariants.{Neither}
use Rattle.pg_shadow.specs.Pages.{Sheet}
use Rattle.pg_shadow.specs.Spaces.{Keeps}
use Rattle.pg_shadow.proofs.Pages.{IsForgotten-steps}
use Rattle.pg_shadow.proofs.space.Space.forget.Goals as goal

pub returns : goal.returns
returns c =
    let K : List Sheet → List Sheet → Level → ℕ → Type 0 = λ old new l n. Keeps old new l n Neither in
    let a : List Sheet = c.args.self.now in
    let b : List Sheet = c.empty.new.self in
    let d : List Sheet = c.empty-2.new.self in
    let e : List Sheet = c.empty-3.new.self in
    let f : List Sheet = c.empty-4.new.self in
    IsForgotten-steps c.args.la a b d e f
    (subst (K a b Four) c.bits_from.ensures c.empty.ensures)
    (subst (K b d Three) c.bits_from-2.ensures c.empty-2.ensures)
    (subst (K d e Two) c.bits_from-3.ensures c.empty-3.ensures)
    (subst (K e f One) c.bits_from-4.ensures c.empty-4.ensures)
