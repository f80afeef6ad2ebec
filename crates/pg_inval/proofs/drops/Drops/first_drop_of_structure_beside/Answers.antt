use Rattle.std.proofs.Common.{◌||◌, subst}
use Rattle.pg_inval.specs.declared.key.DropKey.{DropKey}
use Rattle.pg_inval.specs.Lists.{has_among, has_drop, IsLeastBetween}
use Rattle.pg_inval.specs.Keys.{structure_keys}
use Rattle.pg_inval.specs.Spaces.{space_keys, structure_space}
use Rattle.pg_inval.proofs.AnyFrom.{IsFirstDrop-least, IsLeastBetween-same}
use Rattle.pg_inval.proofs.Spaces.{structure-beside}
use Rattle.pg_inval.proofs.drops.Drops.first_drop_of_structure_beside.Goals as goal

pub returns-clause-first : goal.returns-clause-first
returns-clause-first c =
    let a = c.args in
    let log = a.self.now.entries in
    IsFirstDrop-least (has_among log (structure_keys a.p a.key)) a.window.from a.window.to c.beside.result
    (IsLeastBetween-same _ (has_among log (structure_keys a.p a.key)) a.window.from a.window.to c.beside.result (λ j low. structure-beside log a.p a.key j)
    (subst (λ (k : DropKey). IsLeastBetween (λ j. has_among log (space_keys (structure_space a.p a.key)) j || has_drop log k j) a.window.from a.window.to c.beside.result)
    c.structure_at.ensures (c.beside.ensures.least (has_among log (space_keys (structure_space a.p a.key))) c.requires.found)))
