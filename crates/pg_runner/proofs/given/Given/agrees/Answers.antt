use Rattle.std.proofs.Common.{◌≡◌, ◌∙◌, List, length, sym, ap, subst, arith}
use Rattle.std.proofs.lemmas.Bool.Decides.{nat_tests}
use mathlib.Core.List.{IsPrefix}
use Rattle.pg_runner.specs.declared.batch.Batch.{Batch}
use Rattle.pg_runner.proofs.Beginnings.{as_long}
use Rattle.pg_runner.proofs.given.Given.agrees.Goals as goal

pub returns : goal.returns
returns g c = λ yes.
    let mine = c.self.inside.seen.log in
    let theirs = c.other.inside.seen.log in
    let both = c.learn.new.self.log in
    let this : IsPrefix mine both = subst (λ (l : List Batch). IsPrefix l both) (ap (λ s. s.log) c.again-both.ensures) c.learn.ensures.2 in
    let batches : c.self.inside.batches ≡ c.other.inside.batches = grind (arith, nat_tests, yes) in
    let len : length mine ≡ length theirs = sym c.self.invariant.0 ∙ batches ∙ c.other.invariant.0 in
    rw (← c.self.view_is, ← c.other.view_is) (as_long mine theirs both this c.learn.ensures.3 len)
