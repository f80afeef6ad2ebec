-- No run begins with an access that got an answer.
use Rattle.std.proofs.Common.{◌≡◌, List, [], ◌∷◌, subst}
use Rattle.pg_entry.specs.declared.Rules.{Rules}
use Rattle.pg_event.specs.Heads.{with_rules}
use Rattle.pg_machine.specs.declared.step.Step.{Step}
use Rattle.pg_machine.specs.declared.step.Step.TheVariants.{Fill4, Fill3, Fill2, FillLeaf, Drop, Do}
use Rattle.pg_machine.specs.declared.step.Member.TheVariants as members
use Rattle.pg_machine.specs.Machine.{start, MayCome, IsRun, visible}
use Rattle.pg_machine.specs.NoRun.{one_processor, answered_read}

-- at the start memory is 0 and the caches are empty: there is no entry to fill from, none to drop,
-- and no translation to answer
pub no_run : (rules : Rules) (steps : List Step) → IsRun (with_rules one_processor rules) steps → visible steps ≡ answered_read ∷ [] → ⊥
no_run rules [] run seen = cc
no_run rules (Fill4 p la ∷ steps) run seen = let absent = run.0.1.3 in cc
no_run rules (Fill3 p la from ∷ steps) run seen = run.0.1.1
no_run rules (Fill2 p la from ∷ steps) run seen = run.0.1.1
no_run rules (FillLeaf p la level from ∷ steps) run seen = let absent = run.0.3.3 in cc
no_run rules (Drop p (members.Structure x) ∷ steps) run seen = run.0
no_run rules (Drop p (members.Translation x) ∷ steps) run seen = run.0
no_run rules (Do e ∷ steps) run seen =
    let same : e ≡ answered_read = cc in
    let comes = subst (MayCome (with_rules one_processor rules) (start one_processor)) same run.0.1 in
    comes.1
