use Rattle.std.proofs.Common.{sym, subst, ◌∙◌}
use Rattle.pg_machine.specs.Machine.{IsIn}
use Rattle.pg_span_refute.specs.declared.table.Table.{Table}
use Rattle.pg_span_refute.proofs.Taken.{in_at}
use Rattle.pg_span_refute.proofs.caches.has_table.Goals as goal

pub returns-then-same_table : goal.returns-then-same_table
returns-then-same_table c = λ yes.
    subst (λ (t : Table). IsIn t c.args.tables.now) (sym c.get.ensures.value ∙ c.same_table.ensures c.if-same_table.true)
    (in_at c.args.tables.now c.loop-held.held-index c.held-item.result c.loop-held-test.true c.held-item.is)
