use Rattle.std.proofs.Common.{◌≡◌, All, vec_len}
use Rattle.pg_certify.proofs.segment_checkers.certifiers.Given as goal

abbrev pub invariant-loop : goal.invariant-loop
invariant-loop l = record {
  len : vec_len l.all ≡ l.counter;
  all : All (λ certifier. certifier ≡ l.history) l.all.items;
}
