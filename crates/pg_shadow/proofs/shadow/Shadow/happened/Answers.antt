use Rattle.std.proofs.Common.{◌≡◌, refl, ap, sym, subst, ◌∙◌, arith}
use Rattle.pg_event.specs.Form.{processor_of}
use Rattle.pg_event.specs.Values.{controlled}
use Rattle.pg_event.specs.declared.control.Control.{Control}
use Rattle.pg_shadow.specs.Caches.{AreInRange}
use Rattle.pg_shadow.specs.Held.{Held, seen}
use Rattle.pg_shadow.proofs.Ranges.{AreInRange-after}
use Rattle.pg_shadow.proofs.Shadows.{Takes, seen-after}
use Rattle.pg_shadow.proofs.shadow.Shadow.happened.Goals as goal

pub controlled-self-inside-requires : goal.controlled-self-inside-requires
unfolding seen
controlled-self-inside-requires c = record { width = (omega (arith, c.self.invariant.least), omega (arith, c.self.invariant.most)) }

pub invariant_of-self : goal.invariant_of-self
invariant_of-self c =
    let h : Held = record { width = c.self.inside.maxphyaddr; control = c.self.inside.control; own = c.self.inside.own.entries; globals = c.self.inside.globals } in
    let e = c.args.event.now in
    let takes : Takes c.invalidation-invalidation.result h.control e = record { structures = c.invalidation-invalidation.ensures.structures; translations = c.invalidation-invalidation.ensures.translations; whole = c.invalidation-invalidation.ensures.whole refl } in
    let registers : c.controlled-self-inside.result ≡ controlled h.width (processor_of e) h.control e =
    c.controlled-self-inside.ensures ∙ ap (λ p. controlled h.width p h.control e) c.processor_of.ensures in
    let P : Control → Type 0 = λ r. AreInRange (seen (record { width = h.width; control = r; own = c.leave_own.new.own.entries; globals = c.leave_globals.new.globals })) in
    subst P (sym registers)
    (subst AreInRange (sym (seen-after h e c.invalidation-invalidation.result c.leave_own.new.own.entries c.leave_globals.new.globals takes c.leave_own.ensures c.leave_globals.ensures)) (AreInRange-after e (seen h) c.self.invariant))

pub returns : goal.returns
returns c =
    let h : Held = record { width = c.self.inside.maxphyaddr; control = c.self.inside.control; own = c.self.inside.own.entries; globals = c.self.inside.globals } in
    let e = c.args.event.now in
    let takes : Takes c.invalidation-invalidation.result h.control e = record { structures = c.invalidation-invalidation.ensures.structures; translations = c.invalidation-invalidation.ensures.translations; whole = c.invalidation-invalidation.ensures.whole refl } in
    let registers : c.controlled-self-inside.result ≡ controlled h.width (processor_of e) h.control e =
    c.controlled-self-inside.ensures ∙ ap (λ p. controlled h.width p h.control e) c.processor_of.ensures in
    let made : Control → Held = λ r. record { width = h.width; control = r; own = c.leave_own.new.own.entries; globals = c.leave_globals.new.globals } in
    rw (← c.self.view_is)
    (ap (λ r. seen (made r)) registers ∙ seen-after h e c.invalidation-invalidation.result c.leave_own.new.own.entries c.leave_globals.new.globals takes c.leave_own.ensures c.leave_globals.ensures)
