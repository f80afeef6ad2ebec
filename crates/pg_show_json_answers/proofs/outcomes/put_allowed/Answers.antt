use Rattle.std.proofs.Common.{◌≡◌, ◌∙◌, ℕ, List, ap, map, sym, codes, take, length, vec_len, Vec, Global, Result, Ok, Err, Option, arith}
use Rattle.std.specs.Prelude.{OnOk}
use Rattle.serde_json.specs.Data.{Data, Members, put}
use Rattle.serde_json.specs.View.{members_view}
use Rattle.pg_show_json.proofs.Lists.{fused}
use Rattle.pg_show_json.specs.Tree.{Json, data_of, members_of, count, list, elements}
use Rattle.pg_outcomes.specs.declared.allowed.Allowed.{Allowed}
use Rattle.pg_show_json_answers.specs.Answers.{allowed_json, with_allowed}
use Rattle.pg_show_json_answers.proofs.outcomes.put_allowed.Goals as goal

on_ok : {T E : Type 0} {P Q : Type 0} (x : Result T E) → (P → Q) → OnOk x P → OnOk x Q
on_ok (Ok a) f h = f h
on_ok (Err e) f h = h

pub returns-in_ok-told-in-Some : goal.returns-in_ok-told-in-Some
returns-in_ok-told-in-Some c = λ others is.
    let items : List Allowed = c.in-Some.found.items in
    let told : List Allowed = take 16 items in
    let len_is : vec_len c.in-Some.found ≡ length items = omega (arith, c.in-Some.found.ok.0) in
    let first : c.first_allowed.result.now ≡ told = c.first_allowed.ensures ∙ ap (take 16) c.deref.ensures.value in
    let outcomes : Json = list (elements (map allowed_json told)) in
    let values = c.in_ok-told-in-Some.ensures ∙ ap (λ (xs : List Allowed). map (λ y. data_of (allowed_json y)) xs) first ∙ sym (fused allowed_json told) in
    let listed = c.list_of.ensures (map allowed_json told) values in
    let counted =
    c.in_ok-put_count-in-Some.ensures
    ∙ ap (λ (n : ℕ). put (codes "allowed_count") (data_of (count n)) (members_view c.args.fields.now.entries)) (c.len.ensures ∙ len_is)
    ∙ ap (λ (ms : Members). put (codes "allowed_count") (data_of (count (length items))) ms) is in
    on_ok c.put.result (λ placed. placed
    ∙ ap (λ (d : Data). put (codes "allowed") d (members_view c.put_count.new.fields.entries)) listed
    ∙ ap (λ (ms : Members). put (codes "allowed") (data_of outcomes) ms) counted
    ∙ ap (λ (a : Option (Vec Allowed Global)). members_of (with_allowed a others)) (sym c.in-Some.is)) c.put.ensures.ok
