use Rattle.std.proofs.Common.{map, rules}
use Rattle.std.proofs.lemmas.Map.Made.{map_same_pairs}
use Rattle.pg_moment.specs.Stamps.{cut_word}
use Rattle.pg_moment.proofs.words.cut_all.Goals as goal

pub returns : goal.returns
returns c =
    map_same_pairs _ (map (cut_word c.args.others.now.log.items c.args.moment)) _ (λ k v b w f' t. search rules) _ _ c.retain.ensures.filtered
