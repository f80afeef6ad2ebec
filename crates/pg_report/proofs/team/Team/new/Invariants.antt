use Rattle.std.proofs.Common.{◌≡◌, ◌+◌, [], All, vec_len}
use Rattle.pg_check.specs.Judging.{HasNoted}
use Rattle.pg_report.proofs.team.Team.new.Given as goal

abbrev pub invariant-loop : goal.invariant-loop
invariant-loop l = record {
  noted : All (λ judge. HasNoted judge l.fn.header []) l.others.items;
  len : vec_len l.others + 1 ≡ l.counter;
}
