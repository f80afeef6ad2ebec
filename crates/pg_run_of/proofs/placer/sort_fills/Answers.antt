use Rattle.std.proofs.Common.{rules}
use Rattle.std.proofs.lemmas.List.Sorted.{answers_always, IsNonDecreasingBy-from_sort}
use Rattle.std.proofs.lemmas.Result.{on_ok_weaker}
use Rattle.pg_run_of.specs.declared.fill.Fill.{Fill}
use Rattle.pg_run_of.proofs.Places.{same_fills}
use Rattle.pg_run_of.proofs.placer.sort_fills.Goals as goal

pub returns-clause-order : goal.returns-clause-order
returns-clause-order c =
    on_ok_weaker c.sort_by_key.result
    (λ sorted. IsNonDecreasingBy-from_sort (λ (f : Fill). f.moment) _ (sorted (λ f. f.moment) (answers_always _ _ _ (λ f a r next called. search rules))))
    c.sort_by_key.ensures.sorted

pub returns-clause-same : goal.returns-clause-same
returns-clause-same c = same_fills _ _ (c.sort_by_key.ensures.stable (λ f. f.moment) (answers_always _ _ _ (λ f a r next called. search rules)))
