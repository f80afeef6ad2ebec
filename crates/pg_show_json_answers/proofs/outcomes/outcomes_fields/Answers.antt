use Rattle.std.proofs.Common.{◌≡◌, ◌∙◌, ℕ, List, ap, map, sym, codes, length, vec_len, arith}
use Rattle.serde_json.specs.Data.{Data, Members, put}
use Rattle.serde_json.specs.View.{members_view}
use Rattle.pg_show_json.proofs.Lists.{fused}
use Rattle.pg_show_json.specs.Tree.{Json, data_of, count, list, elements}
use Rattle.pg_answers.specs.declared.answer.OutcomeWalk.{OutcomeWalk}
use Rattle.pg_show_json_answers.specs.Answers.{told_json}
use Rattle.pg_show_json_answers.proofs.outcomes.outcomes_fields.Goals as goal

pub returns : goal.returns
returns c =
    let x = c.args.outcomes.now in
    let told : List OutcomeWalk = x.told.items in
    let len_is : vec_len x.found ≡ length x.found.items = omega (arith, x.found.ok.0) in
    let outcomes : Json = list (elements (map told_json told)) in
    let values = c.in_ok-told.ensures ∙ ap (λ (xs : List OutcomeWalk). map (λ y. data_of (told_json y)) xs) c.deref.ensures.value ∙ sym (fused told_json told) in
    let listed = c.list_of.ensures (map told_json told) values in
    let counted =
    c.in_ok-put_count.ensures
    ∙ ap (λ (n : ℕ). put (codes "count") (data_of (count n)) (members_view c.in_ok-fields.fields.entries)) (c.len.ensures ∙ len_is)
    ∙ ap (λ (ms : Members). put (codes "count") (data_of (count (length x.found.items))) ms) c.in_ok-fields.ensures in
    c.in_ok-put.ensures.ok
    ∙ ap (λ (d : Data). put (codes "outcomes") d (members_view c.put_count.new.fields.entries)) listed
    ∙ ap (λ (ms : Members). put (codes "outcomes") (data_of outcomes) ms) counted
