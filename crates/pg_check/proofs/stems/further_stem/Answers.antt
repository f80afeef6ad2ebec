use Rattle.std.proofs.Common.{◌≡◌, ℕ, ◌≤◌, List, [], ◌∷◌, ◌++◌, length, Option, Some, None, Ok, IfSome}
use Rattle.pg_event.specs.declared.event.Event.{Event}
use Rattle.pg_event.specs.declared.event.Want.TheVariants as wants
use Rattle.pg_event.specs.Heads.{Head}
use Rattle.pg_chain.specs.declared.past.Past.{Past}
use Rattle.pg_chain.specs.declared.steps.Chain.{Chain}
use Rattle.pg_chain.specs.Standing.{IsPast}
use Rattle.pg_chain.specs.Walked.{chain_of}
use Rattle.pg_check.specs.Remembered.{page_bits, page_start}
use Rattle.pg_check.specs.Stems.{IsStem}
use Rattle.pg_check.proofs.Uppers.{stem_further}
use Rattle.pg_check.proofs.stems.further_stem.Goals as goal

-- what a walk goes on to is an upper part
if_further : (found : Option Chain) (past : Past) (n p region : ℕ) (upper ws : List ℕ) (stem : Chain) →
    IsStem past n p (page_start (page_bits (length upper)) region) upper stem → ws ≡ upper ++ n ∷ [] → length ws ≤ 4 →
    ((head : Head) (events : List Event) → IsPast past head events → (vs : List ℕ) → chain_of head events p region vs wants.Present ≡ Ok stem →
    IfSome found (λ chain. chain_of head events p region (vs ++ n ∷ []) wants.Present ≡ Ok chain)) →
    IfSome found (IsStem past n p region ws)
if_further None past n p region upper ws stem is whole few on = tt
if_further (Some chain) past n p region upper ws stem is whole few on =
    stem_further past n p region upper ws stem chain is whole few (λ head events h known. on head events h upper known)

pub returns : goal.returns
returns c =
    let a = c.args in
    if_further c.chain_further.result a.past.now a.number a.region.p a.region.first a.upper.now a.moments.now a.stem
    c.requires.stem c.requires.whole c.requires.few c.chain_further.ensures.whole
