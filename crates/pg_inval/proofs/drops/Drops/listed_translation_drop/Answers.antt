use Rattle.std.proofs.Common.{List, subst, ◌∙◌}
use Rattle.pg_inval.specs.declared.key.DropKey.{DropKey}
use Rattle.pg_inval.specs.declared.log.LogEntry.{LogEntry}
use Rattle.pg_inval.specs.Lists.{Log, IsFirstDrop, has_between}
use Rattle.pg_inval.specs.Drops.{CacheEntry, Translation, keys_of}
use Rattle.pg_inval.proofs.Kept.{IsFirstDrop-survives}
use Rattle.pg_inval.proofs.drops.Drops.listed_translation_drop.Goals as goal

pub returns-clause-first : goal.returns-clause-first
returns-clause-first c =
    let x : CacheEntry = Translation c.args.key in
    let found = c.first_between.result in
    let asked : IsFirstDrop (has_between c.as_slice-log.result.now (keys_of c.args.p x)) c.args.window.from c.args.window.to found
    = subst (λ (ks : List DropKey). IsFirstDrop (has_between c.as_slice-log.result.now ks) c.args.window.from c.args.window.to found) (c.as_slice.ensures.value ∙ c.translation_keys-keys.ensures) c.first_between.ensures.first in
    let own : IsFirstDrop (has_between c.self.inside.log.items (keys_of c.args.p x)) c.args.window.from c.args.window.to found
    = subst (λ (es : List LogEntry). IsFirstDrop (has_between es (keys_of c.args.p x)) c.args.window.from c.args.window.to found) c.as_slice-log.ensures.value asked in
    subst (λ (d : Log). IsFirstDrop (has_between d.entries (keys_of c.args.p x)) c.args.window.from c.args.window.to found) c.self.view_is own

pub returns-clause-run : goal.returns-clause-run
returns-clause-run c = λ head events stands.
    IsFirstDrop-survives c.args.self.now head events c.args.p (Translation c.args.key) c.args.window.from c.args.window.to c.first_between.result stands c.requires (returns-clause-first c)
