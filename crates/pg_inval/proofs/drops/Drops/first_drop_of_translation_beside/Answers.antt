use Rattle.std.proofs.Common.{◌||◌, subst}
use Rattle.pg_inval.specs.declared.key.DropKey.{DropKey}
use Rattle.pg_inval.specs.Lists.{has_among, has_drop, IsLeastBetween}
use Rattle.pg_inval.specs.Keys.{translation_keys}
use Rattle.pg_inval.specs.Spaces.{space_keys, translation_space}
use Rattle.pg_inval.specs.Drops.{Translation}
use Rattle.pg_inval.proofs.AnyFrom.{IsFirstDrop-least, IsLeastBetween-same}
use Rattle.pg_inval.proofs.Kept.{IsFirstDrop-survives}
use Rattle.pg_inval.proofs.Spaces.{translation-beside}
use Rattle.pg_inval.proofs.drops.Drops.first_drop_of_translation_beside.Goals as goal

pub returns-clause-first : goal.returns-clause-first
returns-clause-first c =
    let a = c.args in
    let log = a.self.now.entries in
    IsFirstDrop-least (has_among log (translation_keys a.p a.key)) a.window.from a.window.to c.beside.result
    (IsLeastBetween-same _ (has_among log (translation_keys a.p a.key)) a.window.from a.window.to c.beside.result (λ j low. translation-beside log a.p a.key j)
    (subst (λ (k : DropKey). IsLeastBetween (λ j. has_among log (space_keys (translation_space a.p a.key)) j || has_drop log k j) a.window.from a.window.to c.beside.result)
    c.own_key.ensures (c.beside.ensures.least (has_among log (space_keys (translation_space a.p a.key))) c.requires.found)))

pub returns-clause-run : goal.returns-clause-run
returns-clause-run c = λ head events stands.
    IsFirstDrop-survives c.args.self.now head events c.args.p (Translation c.args.key) c.args.window.from c.args.window.to c.beside.result stands c.requires.shift (returns-clause-first c)
