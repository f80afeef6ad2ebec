use Rattle.std.proofs.Common.{Bool, sym, subst}
use Rattle.pg_event.specs.declared.invalidation.Invalidation.{Invalidation}
use Rattle.pg_event.specs.declared.invalidation.Invalidation.TheVariants.{Everything}
use Rattle.pg_inval.specs.declared.key.DropKey.TheVariants.{NotGlobal, Globals, StructuresOf, LocalsOf}
use Rattle.pg_inval.specs.Keys.{dropped_keys}
use Rattle.pg_inval.specs.Lasts.{AreRaised}
use Rattle.pg_inval.proofs.Bounded.{AreRaised-own, AreRaised-two}
use Rattle.pg_inval.proofs.lasts.Lasts.raise_for.Goals as goal

pub returns-in-Address : goal.returns-in-Address
returns-in-Address c =
    let new = c.raise_globals_if.new.self in
    let p = c.args.p in
    let m = c.args.moment in
    subst (λ (i : Invalidation). AreRaised c.args.self.now new (dropped_keys p i) m) (sym c.in-Address.is)
    (AreRaised-two _ _ _ _ _ m c.raise_structures_if.ensures (AreRaised-two _ _ _ _ _ m c.raise_locals_if.ensures c.raise_globals_if.ensures))

pub returns-in-Page : goal.returns-in-Page
returns-in-Page c =
    let new = c.raise_globals.new.self in
    let p = c.args.p in
    let m = c.args.moment in
    subst (λ (i : Invalidation). AreRaised c.args.self.now new (dropped_keys p i) m) (sym c.in-Page.is)
    (AreRaised-two _ _ _ _ _ m (AreRaised-own _ _ (StructuresOf p c.in-Page.pcid) m c.raise.ensures.kept c.raise.ensures.own)
    (AreRaised-two _ _ _ _ _ m c.raise_locals.ensures c.raise_globals.ensures))

pub returns-in-Pcid : goal.returns-in-Pcid
returns-in-Pcid c =
    let new = c.raise-in-Pcid-2.new.self in
    let p = c.args.p in
    let m = c.args.moment in
    subst (λ (i : Invalidation). AreRaised c.args.self.now new (dropped_keys p i) m) (sym c.in-Pcid.is)
    (AreRaised-two _ _ _ _ _ m (AreRaised-own _ _ (StructuresOf p _) m c.raise-in-Pcid.ensures.kept c.raise-in-Pcid.ensures.own)
    (AreRaised-own _ _ (LocalsOf p _) m c.raise-in-Pcid-2.ensures.kept c.raise-in-Pcid-2.ensures.own))

pub returns-then-globals : goal.returns-then-globals
returns-then-globals c =
    let new = c.raise-then-globals.new.self in
    let p = c.args.p in
    let m = c.args.moment in
    subst (λ (i : Invalidation). AreRaised c.args.self.now new (dropped_keys p i) m) (sym c.in-Everything.is)
    (subst (λ (g : Bool). AreRaised c.args.self.now new (dropped_keys p (Everything g)) m) (sym c.if-globals.true)
    (AreRaised-two _ _ _ _ _ m (AreRaised-own _ _ (NotGlobal p) m c.raise-in-Everything.ensures.kept c.raise-in-Everything.ensures.own)
    (AreRaised-own _ _ (Globals p) m c.raise-then-globals.ensures.kept c.raise-then-globals.ensures.own)))
