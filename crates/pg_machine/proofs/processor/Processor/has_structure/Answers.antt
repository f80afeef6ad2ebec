use Rattle.std.proofs.Common.{ap, ◌∙◌}
use Rattle.std.specs.List.{list_any}
use Rattle.pg_machine.specs.Machine.{same_structure}
use Rattle.pg_machine.proofs.Newest.{any-reverse}
use Rattle.pg_machine.proofs.processor.Processor.has_structure.Goals as goal

pub returns-clause-value : goal.returns-clause-value
returns-clause-value c =
    let wanted = same_structure c.args.wanted.now in
    rw (← c.self.view_is, ← any-reverse wanted c.self.inside.structures.items)
    (c.is_among.ensures.value ∙ ap (list_any wanted) c.deref.ensures.value)
