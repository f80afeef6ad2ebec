use Rattle.std.proofs.Common.{◌≡◌, ℕ, [], ◌∷◌, ◌++◌, List, Ok, ap, subst, ◌∙◌}
use Rattle.pg_event.specs.declared.event.Want.TheVariants as wants
use Rattle.pg_chain.specs.Walked.{chain_of}
use Rattle.pg_check.specs.Remembered.{page_bits, page_start}
use Rattle.pg_check.proofs.Uppers.{stem_walk}
use Rattle.pg_check.proofs.tip.chain_at_event.Goals as goal

pub returns-then-chain-number-clause-walk : goal.returns-then-chain-number-clause-walk
returns-then-chain-number-clause-walk c = λ head events h.
    let claim = c.args.claim.now in
    let ws = c.args.moments.now in
    let upper = c.in_ok-upper.upper in
    let page = c.page_of-page.result in
    let stem = stem_walk c.args.past.now claim.number claim.p c.page_of-first.result page upper c.in_ok-stem.stem c.in_ok-stem.ensures.stem
    (c.page_of-first.ensures ∙ ap (λ n. page_start (page_bits n) page) c.len-2.ensures.length) head events h in
    let whole : chain_of head events claim.p page ws wants.Leaf ≡ Ok c.in_ok-chain.chain =
    ap (λ (vs : List ℕ). chain_of head events claim.p page vs wants.Leaf) (c.in_ok-upper.ensures.whole ∙ ap (λ n. upper ++ n ∷ []) c.if-last-number.false)
    ∙ c.in_ok-chain.ensures.whole head events h upper stem in
    subst (λ (la : ℕ). chain_of head events claim.p la ws wants.Leaf ≡ Ok c.in_ok-chain.chain)
    (c.page_of-page.ensures ∙ ap (λ n. page_start (page_bits n) claim.la) c.len.ensures.length) whole
