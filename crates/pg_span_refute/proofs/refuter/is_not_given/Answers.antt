use Rattle.std.proofs.Common.{Bool, sym, subst}
use Rattle.std.specs.Prelude.{IfOk, IsTrue}
use Rattle.pg_entry.specs.declared.AccessKind.{AccessKind}
use Rattle.pg_event.specs.declared.event.Event.{Event}
use Rattle.pg_event.specs.Form.{says_dirty}
use Rattle.pg_span_refute.specs.Caches.{HasNoUpdate, IsNotGiven, known_of}
use Rattle.pg_span_refute.proofs.refuter.is_not_given.Goals as goal

pub returns-in-Assist-clause-cannot : goal.returns-in-Assist-clause-cannot
returns-in-Assist-clause-cannot c =
    subst (λ (e : Event). IfOk c.has_no_update.result (λ cannot. IsTrue cannot → IsNotGiven c.args.run.now c.args.slot c.args.la (known_of c.args.caches.now) e)) (sym c.in-Assist.is)
    (subst (λ (k : AccessKind). IfOk c.has_no_update.result (λ cannot. IsTrue cannot → HasNoUpdate c.args.run.now c.args.slot c.args.la (known_of c.args.caches.now) k c.in-Assist.word (says_dirty c.in-Assist.flags))) c.access_kind.ensures
    (subst (λ (d : Bool). IfOk c.has_no_update.result (λ cannot. IsTrue cannot → HasNoUpdate c.args.run.now c.args.slot c.args.la (known_of c.args.caches.now) c.access_kind.result c.in-Assist.word d)) c.says_dirty.ensures
    c.has_no_update.ensures.none))
