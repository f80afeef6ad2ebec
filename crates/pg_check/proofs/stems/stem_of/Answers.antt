use Rattle.std.proofs.Common.{List, Option, sym, subst}
use Rattle.pg_check.specs.declared.stems.Stem.{Stem}
use Rattle.pg_check.specs.Stems.{HaveStems}
use Rattle.pg_check.proofs.stems.stem_of.Goals as goal

pub returns-in-Some-clause-stem : goal.returns-in-Some-clause-stem
returns-in-Some-clause-stem c =
    c.in-Some.ensures c.args.past.now c.args.number (subst (λ (xs : List (Option Stem)). HaveStems c.args.past.now c.args.number xs) (sym c.as_slice.ensures.value) c.requires.stems)
