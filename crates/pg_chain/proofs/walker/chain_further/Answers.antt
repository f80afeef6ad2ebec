use Rattle.std.proofs.Common.{◌≡◌, Option, Some, None, Result, Ok, IfSome, ◌∙◌}
use Rattle.pg_event.specs.declared.event.Reason.{Reason}
use Rattle.pg_chain.specs.declared.steps.Chain.{Chain}
use Rattle.pg_chain.proofs.Further.{chain_of-further}
use Rattle.pg_chain.proofs.walker.chain_further.Goals as goal

-- what the one comes to, the other does
as_well : (found : Option Chain) (one other : Result Chain Reason) → other ≡ one → IfSome found (λ chain. one ≡ Ok chain) → IfSome found (λ chain. other ≡ Ok chain)
as_well None one other same is = tt
as_well (Some chain) one other same is = same ∙ is

pub returns-clause-whole : goal.returns-clause-whole
returns-clause-whole c = λ head events h ws upper.
    let a = c.args in
    as_well c.one_further.result _ _ (chain_of-further head events a.p a.la a.want ws a.upper a.moment upper) (c.one_further.ensures head events h)
