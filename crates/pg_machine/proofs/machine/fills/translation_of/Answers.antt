use Rattle.std.proofs.Common.{sym}
use Rattle.pg_machine.proofs.Bounds.{leaf_within}
use Rattle.pg_machine.proofs.machine.fills.translation_of.Goals as goal

pub returns-after-global_bit-clause-within : goal.returns-after-global_bit-clause-within
returns-after-global_bit-clause-within c =
    let within = leaf_within c.args.cfg c.args.level c.args.entry.0 c.in-Leaf.frame c.in-Leaf.shift c.in-Leaf.global_bit c.requires.width.0 c.requires.width.1 (sym c.in-Leaf.ensures.kind) in
    (rw c.translation_key.ensures within.0, within.1)
