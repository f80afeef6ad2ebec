use Rattle.std.proofs.Common.{ℕ, [], ◌∷◌, ◌++◌, List, ap, ◌∙◌}
use Rattle.pg_span_refute.proofs.Listing.{pushed_more, pushed_marked}
use Rattle.pg_span_refute.proofs.words.push_marked.Goals as goal

pub returns-clause-more : goal.returns-clause-more
returns-clause-more c =
    let m : ℕ = c.marked.result.0 in
    let n : ℕ = c.marked-2.result.0 in
    pushed_more c.args.values.now.items c.push-3.new.self.items c.args.value m n
    (c.in_ok-push-3.ensures.items ∙ ap (λ (xs : List ℕ). xs ++ n ∷ []) (c.in_ok-push-2.ensures.items ∙ ap (λ (xs : List ℕ). xs ++ m ∷ []) c.in_ok-push.ensures.items))

pub returns-clause-marked : goal.returns-clause-marked
returns-clause-marked c =
    let m : ℕ = c.marked.result.0 in
    let n : ℕ = c.marked-2.result.0 in
    pushed_marked c.args.values.now.items c.push-3.new.self.items c.args.value m n c.marked.ensures c.marked-2.ensures
    (c.in_ok-push-3.ensures.items ∙ ap (λ (xs : List ℕ). xs ++ n ∷ []) (c.in_ok-push-2.ensures.items ∙ ap (λ (xs : List ℕ). xs ++ m ∷ []) c.in_ok-push.ensures.items))
