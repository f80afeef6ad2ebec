use Rattle.std.proofs.Common.{◌∙◌}
use Rattle.pg_inval.specs.Lists.{has_among}
use Rattle.pg_inval.specs.Drops.{Structure, keys_of}
use Rattle.pg_inval.proofs.AnyFrom.{is_some-dropped}
use Rattle.pg_inval.proofs.drops.Drops.structure_dropped_beside.Goals as goal

pub returns-clause-value : goal.returns-clause-value
returns-clause-value c =
    let x = Structure c.args.key in
    c.is_some.ensures
    ∙ is_some-dropped (has_among c.args.self.now.entries (keys_of c.args.p x)) c.args.window.from c.args.window.to c.first_drop_of_structure_beside.result c.first_drop_of_structure_beside.ensures.first

pub returns-clause-run : goal.returns-clause-run
returns-clause-run c = λ head events stands.
    let x = Structure c.args.key in
    returns-clause-value c ∙ stands.drops c.args.p x c.args.window.from c.args.window.to c.requires.level
