use Rattle.std.proofs.Common.{◌<◌, ◌++◌, ◌∷◌, [], length, ap, ◌∙◌, rules}
use Rattle.std.proofs.lemmas.Result.{err_from_is_err_and}
use Rattle.pg_guest.proofs.Lists.{list_at_is, list_at_pushed, list_at_same}
use Rattle.pg_guest.proofs.tasks.push_at.Goals as goal

pub returns-clause-ok : goal.returns-clause-ok
returns-clause-ok c =
    let lists = c.args.lists.now.items in
    let within : c.args.place < length lists = search rules in
    let was = list_at_is lists c.args.place c.index_mut.result.now within c.index_mut.ensures.value in
    let items = c.in_ok-push.ensures.items ∙ ap (λ is. is ++ c.args.instruction.now ∷ []) was in
    λ p. list_at_pushed lists c.args.place c.push.new.self c.args.instruction.now p within items

pub returns-in_err-push-clause-err : goal.returns-in_err-push-clause-err
returns-in_err-push-clause-err c =
    let lists = c.args.lists.now.items in
    let within : c.args.place < length lists = search rules in
    let was = list_at_is lists c.args.place c.index_mut.result.now within c.index_mut.ensures.value in
    let items = c.in_err-push.ensures.items ∙ was in
    let p = err_from_is_err_and c.from_residual.result c.from_residual.ensures.1 in
    rw p.1 (λ q. list_at_same lists c.args.place c.push.new.self q within items)
