use Rattle.std.proofs.Common.{ℕ, sym, ap, subst, ◌∙◌}
use Rattle.pg_event.specs.Heads.{Head}
use Rattle.pg_machine.specs.Machine.{IsIn}
use Rattle.pg_span_refute.specs.Caches.{may_update_entry}
use Rattle.pg_span_refute.specs.Memory.{MayHold}
use Rattle.pg_span_refute.proofs.updates.table_updates_not.Goals as goal

pub returns-clause-none : goal.returns-clause-none
returns-clause-none c = λ is_true entry at may same.
    let held = c.in_ok-look.ensures.values c.if-not-branch.false entry (subst (λ (a : ℕ). MayHold c.args.run.now c.args.slot a entry) (sym c.entry_address-address.ensures) may) in
    c.none_updates.ensures is_true entry (subst (IsIn entry) (sym c.as_slice.ensures.value) held)
    (ap (λ (h : Head). may_update_entry h.cfg c.args.update.kind c.args.update.dirty c.args.table entry) c.header.ensures.header ∙ same)
