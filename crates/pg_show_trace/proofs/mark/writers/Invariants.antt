use Rattle.std.proofs.Common.{◌≡◌, take}
use Rattle.std.specs.List.{flat_map}
use Rattle.pg_show_trace.specs.declared.mark.Role.TheVariants.{Write}
use Rattle.pg_show_trace.specs.Marks.{source_at}
use Rattle.pg_show_trace.proofs.mark.writers.Given as goal

abbrev pub invariant-loop-entry : goal.invariant-loop-entry
invariant-loop-entry l =
    l.sources.items ≡ flat_map (λ x. source_at l.events Write x.writer) (take l.entry-index l.entry-items)
