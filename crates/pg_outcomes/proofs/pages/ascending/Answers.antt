use Rattle.std.proofs.lemmas.List.Filters.{dedup_is}
use Rattle.std.proofs.lemmas.List.Kept.{Contains-dedup_nat}
use Rattle.std.proofs.lemmas.List.Sorted.{Contains-permutation}
use Rattle.std.proofs.lemmas.Map.Keys.{IsStrictlyIncreasing-dedup}
use Rattle.pg_outcomes.proofs.pages.ascending.Goals as goal

pub returns : goal.returns
returns c =
    let is = dedup_is _ _ _ c.dedup.ensures.filtered in
    let moved = c.sort_unstable.ensures.permutation in
    record {
      rise = rw is (IsStrictlyIncreasing-dedup _ c.sort_unstable.ensures.sorted);
      all = λ x h. rw is (Contains-dedup_nat _ x (Contains-permutation _ _ x moved h));
    }
