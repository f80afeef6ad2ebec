use Rattle.std.proofs.Common.{subst}
use Rattle.pg_machine.specs.Machine.{IsIn}
use Rattle.pg_span_refute.specs.declared.table.Table.{Table}
use Rattle.pg_span_refute.specs.Caches.{known_of}
use Rattle.pg_span_refute.proofs.Passing.{extends_refl, in_last}
use Rattle.pg_span_refute.proofs.caches.Caches.add_table.Goals as goal

pub returns-then-has_table-clause-more : goal.returns-then-has_table-clause-more
returns-then-has_table-clause-more c = extends_refl (known_of c.args.self.now)

pub returns-clause-there : goal.returns-clause-there
returns-clause-there c =
    subst (λ (t : Table). IsIn t c.push.new.self.items) c.new.ensures (in_last c.new.result c.args.self.now.tables.items c.push.new.self.items c.in_ok-push.ensures.items)
