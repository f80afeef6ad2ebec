use Rattle.std.proofs.Common.{nat_eq, rules}
use Rattle.std.proofs.lemmas.Map.Made.{map_same_pairs}
use Rattle.pg_timeline.specs.Timelines.{cut_at}
use Rattle.pg_timeline.proofs.Timelines.{AreCut-map}
use Rattle.pg_moment.proofs.lists.cut_lists.Goals as goal

pub returns : goal.returns
returns c =
    AreCut-map nat_eq c.args.moment c.args.lists.now.entries c.retain.new.self.entries
    (map_same_pairs _ (cut_at c.args.moment) _ (λ k v b w f' t. search rules) _ _ c.retain.ensures.filtered)
