use Rattle.std.proofs.Common.{rules, ◌≡◌, ◌+◌, nat_lt, ℕ, Bool, List, sym, subst, arith, true, false}
use Rattle.std.specs.List.{count_by}
use Rattle.std.specs.List.Sorted.{IsPartitionedBy, IsPartitionPoint}
use Rattle.std.proofs.lemmas.List.Sorted.{IsPartitionPoint-from_clause, IsPartitionedBy-ltb}
use Rattle.pg_span_run.specs.declared.log.Stamped.{Stamped}
use Rattle.pg_span_run.proofs.Lists.{counted}
use Rattle.pg_span_run.proofs.EndStamps.{rising_ends}
use Rattle.pg_span_run.proofs.merger.ended_before.Goals as goal

pub returns : goal.returns
returns c =
    let all : List Stamped = c.args.all.now in
    let since : ℕ = c.saturating_sub-since.result in
    let ended : Stamped → Bool = λ y. nat_lt (y.end + c.args.error) since in
    let parted : IsPartitionedBy ended all = IsPartitionedBy-ltb (λ y. y.end + c.args.error) all since (rising_ends c.args.error all c.requires) in
    let point : IsPartitionPoint (λ y. ended y ≡ true) (λ y. ended y ≡ false) all c.partition_point.result =
    IsPartitionPoint-from_clause ended all c.partition_point.result c.partition_point.ensures.partitioned parted (λ a r q k. search rules) in
    let count : count_by ended all ≡ c.partition_point.result = counted ended all c.partition_point.result c.partition_point.ensures.bound (λ k d lt. point.0 k d (omega arith) lt) (λ k d low lt. point.1 k d low lt) in
    sym (subst (λ n. count_by (λ y. nat_lt (y.end + c.args.error) n) all ≡ c.partition_point.result) c.saturating_sub-since.ensures count)
