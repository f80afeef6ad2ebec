use Rattle.std.proofs.Common.{◌<◌, ◌++◌, ◌∷◌, [], length, ap, ◌∙◌, rules}
use Rattle.pg_reach.proofs.Parted.{part_at_is, part_at_pushed}
use Rattle.pg_reach.proofs.parts.push_at.Goals as goal

pub returns-clause-spans : goal.returns-clause-spans
returns-clause-spans c =
    let parts = c.args.parts.now.items in
    let within : c.args.place < length parts = search rules in
    let was = part_at_is parts c.args.place c.index_mut.result.now within c.index_mut.ensures.value in
    let items = c.in_ok-push.ensures.items ∙ ap (λ is. is ++ c.args.span ∷ []) was in
    λ k. part_at_pushed parts c.args.place c.push.new.self c.args.span k within items
