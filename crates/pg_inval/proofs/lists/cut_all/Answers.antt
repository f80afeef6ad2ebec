use Rattle.std.proofs.Common.{rules}
use Rattle.std.proofs.lemmas.Map.Made.{map_same_pairs}
use Rattle.pg_timeline.specs.Timelines.{cut_at}
use Rattle.pg_inval.specs.Keys.{is_same_key}
use Rattle.pg_timeline.proofs.Timelines.{AreCut-map}
use Rattle.pg_inval.proofs.lists.cut_all.Goals as goal

pub returns : goal.returns
returns c =
    AreCut-map is_same_key c.args.moment c.args.by_key.now.entries c.retain.new.self.entries
    (map_same_pairs _ (cut_at c.args.moment) _ (λ k v b w f' t. search rules) _ _ c.retain.ensures.filtered)
