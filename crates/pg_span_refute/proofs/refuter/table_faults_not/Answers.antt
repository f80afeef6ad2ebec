use Rattle.std.proofs.Common.{ℕ, sym, ap, subst, ◌∙◌}
use Rattle.pg_entry.specs.Kinds.{kind_of}
use Rattle.pg_event.specs.Heads.{Head}
use Rattle.pg_machine.specs.Machine.{IsIn}
use Rattle.pg_span_refute.specs.Memory.{MayHold}
use Rattle.pg_span_refute.proofs.refuter.table_faults_not.Goals as goal

pub returns-clause-none : goal.returns-clause-none
returns-clause-none c = λ yes entry may same.
    let held = c.in_ok-look.ensures.values c.if-not-branch.false entry (subst (λ (a : ℕ). MayHold c.args.run.now c.args.slot a entry) (sym c.entry_address-address.ensures) may) in
    c.none_faults.ensures yes entry (subst (IsIn entry) (sym c.as_slice.ensures.value) held)
    (ap (λ (h : Head). kind_of h.cfg c.args.table.level entry) c.header.ensures.header ∙ same)
