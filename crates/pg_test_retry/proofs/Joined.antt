-- A core run and one that goes on from its end are one core run.
use Rattle.std.proofs.Common.{ℕ, List, [], ◌∷◌, ◌++◌, sym, subst, ap}
use Rattle.std.specs.Prelude.{slice_set}
use Rattle.pg_guest.specs.declared.advance.Advance.{Advance}
use Rattle.pg_guest.specs.CoreRun.{IsCoreRun}
use Rattle.pg_guest.specs.Turn.{Processor}
use Rattle.pg_world.specs.Recording.{Recording}

pub joined : (r : Recording) (xs : List Processor) (ps : List ℕ) (answers : List Advance) (mid : Recording) (mids : List Processor) (qs : List ℕ) (more : List Advance) (end : Recording) (ys : List Processor)
    → IsCoreRun r xs ps answers mid mids → IsCoreRun mid mids qs more end ys → IsCoreRun r xs (ps ++ qs) (answers ++ more) end ys
joined r xs [] answers mid mids qs more end ys first second =
    subst (λ (before : List Advance). IsCoreRun r xs qs (before ++ more) end ys) (sym first.0)
    (subst (λ (w : Recording). IsCoreRun w xs qs more end ys) first.1 (subst (λ (zs : List Processor). IsCoreRun mid zs qs more end ys) first.2 second))
joined r xs (p ∷ ps) answers mid mids qs more end ys first second = (
  first.0,
  first.1,
  first.2 ++ more,
  first.3,
  first.4,
  ap (λ (before : List Advance). before ++ more) first.5,
  joined first.1.world (slice_set xs p first.1.processor) ps first.2 mid mids qs more end ys first.6 second,
)
