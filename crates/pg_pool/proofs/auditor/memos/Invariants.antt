use Rattle.std.proofs.Common.{◌≡◌, All, vec_len}
use Rattle.pg_pool.proofs.auditor.memos.Given as goal

abbrev pub invariant-loop : goal.invariant-loop
invariant-loop l = record {
  len : vec_len l.memos ≡ l.counter;
  all : All (λ memo. memo ≡ l.stretch.past.now) l.memos.items;
}
