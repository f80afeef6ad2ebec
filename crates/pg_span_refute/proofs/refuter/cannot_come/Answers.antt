use Rattle.std.proofs.Common.{sym, subst, ◌∙◌}
use Rattle.std.specs.Prelude.{IfOk, IsTrue}
use Rattle.pg_event.specs.declared.event.Want.{Want}
use Rattle.pg_span_refute.specs.Caches.{CannotCome, known_of}
use Rattle.pg_span_refute.proofs.refuter.cannot_come.Goals as goal

pub returns-in-Absent-clause-cannot : goal.returns-in-Absent-clause-cannot
returns-in-Absent-clause-cannot c =
    subst (λ (w : Want). IfOk c.has_no_fault.result (λ cannot. IsTrue cannot → CannotCome c.args.run.now c.args.slot c.args.asked.la (known_of c.args.caches.now) c.args.asked.kind c.args.asked.outcome w))
    (sym c.in-Absent.is ∙ c.want_of.ensures) c.has_no_fault.ensures.none

pub returns-in-Reserved-clause-cannot : goal.returns-in-Reserved-clause-cannot
returns-in-Reserved-clause-cannot c =
    subst (λ (w : Want). IfOk c.has_no_fault-in-Reserved.result (λ cannot. IsTrue cannot → CannotCome c.args.run.now c.args.slot c.args.asked.la (known_of c.args.caches.now) c.args.asked.kind c.args.asked.outcome w))
    (sym c.in-Reserved.is ∙ c.want_of.ensures) c.has_no_fault-in-Reserved.ensures.none
