use Rattle.std.proofs.Common.{sym, subst, List, []}
use Rattle.pg_inval.specs.declared.log.LogEntry.{LogEntry}
use Rattle.pg_inval.specs.Drops.{StandsFor}
use Rattle.pg_inval.proofs.Kept.{StandsFor-start}
use Rattle.pg_inval.proofs.drops.Drops.new.Goals as goal

pub returns-clause-start : goal.returns-clause-start
returns-clause-start c = λ head. subst (λ (es : List LogEntry). StandsFor (record { entries = es; next = 0 }) head []) (sym c.new.ensures.items) (StandsFor-start head)
